-- The action of the name, as its reader gives it.
use Rattle.std.proofs.Common.{◌∙◌, codes, map, option_map}
use Rattle.command_line.proofs.Choices.{action_chosen}
use Rattle.command_line.proofs.disk_args.action_named.Goals as goal

pub returns-in-mkfs : goal.returns-in-mkfs
returns-in-mkfs c = record {
  action = c.mkfs_of.ensures.action ∙ action_chosen c.args.name.now (codes "mkfs") (option_map (λ s. s.now) c.args.out) (map (λ s. s.now) c.args.args.now) c.in-mkfs.is;
}

pub returns-in-ls : goal.returns-in-ls
returns-in-ls c = record {
  action = c.ls_of.ensures.action ∙ action_chosen c.args.name.now (codes "ls") (option_map (λ s. s.now) c.args.out) (map (λ s. s.now) c.args.args.now) c.in-ls.is;
}

pub returns-in-get : goal.returns-in-get
returns-in-get c = record {
  action = c.get_of.ensures.action ∙ action_chosen c.args.name.now (codes "get") (option_map (λ s. s.now) c.args.out) (map (λ s. s.now) c.args.args.now) c.in-get.is;
}

pub returns-in-put : goal.returns-in-put
returns-in-put c = record {
  action = c.put_of.ensures.action ∙ action_chosen c.args.name.now (codes "put") (option_map (λ s. s.now) c.args.out) (map (λ s. s.now) c.args.args.now) c.in-put.is;
}

pub returns-in-check : goal.returns-in-check
returns-in-check c = record {
  action = c.check_of.ensures.action ∙ action_chosen c.args.name.now (codes "check") (option_map (λ s. s.now) c.args.out) (map (λ s. s.now) c.args.args.now) c.in-check.is;
}

pub returns-in-repair : goal.returns-in-repair
returns-in-repair c = record {
  action = c.repair_of.ensures.action ∙ action_chosen c.args.name.now (codes "repair") (option_map (λ s. s.now) c.args.out) (map (λ s. s.now) c.args.args.now) c.in-repair.is;
}
