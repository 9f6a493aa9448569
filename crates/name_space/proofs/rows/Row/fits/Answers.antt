use Rattle.std.proofs.Common.{◌∙◌, ap, length, take}
use Rattle.std.specs.Str.{bytes_eq}
use Rattle.name_space.proofs.rows.Row.fits.Goals as goal
use Rattle.xinu_model.proofs.NameTimes.{bytes_eq_turned}

pub returns : goal.returns
returns c = record {
  fits = c.starts_with.ensures.value
      ∙ ap (λ p. bytes_eq p (take (length p) c.args.name.now)) c.bytes.ensures.same
      ∙ bytes_eq_turned c.args.self.now.prefix (take (length c.args.self.now.prefix) c.args.name.now);
}
