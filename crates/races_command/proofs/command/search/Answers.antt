use Rattle.std.proofs.Common.{◌<◌, List, map, refl, subst, sym}
use Rattle.std.specs.List.{sum}
use Rattle.race_tables.specs.Rows.{Row}
use Rattle.races_command.proofs.Ending.{all_fit, named_ends, some_ends, some_fit, table_stops}
use Rattle.races_command.proofs.command.search.Goals as goal

pub send_table-requires-clause-fits : goal.send_table-requires-clause-fits
send_table-requires-clause-fits g c =
    subst (λ (t : List Row). sum (map (λ row. row.count) t) < 18446744073709551616) (sym c.as_slice.ensures.value)
    (all_fit _ _ _ c.args.limits.most c.args.limits.stretch _ c.requires.most c.requires.within c.in-Ok.ensures.explores)

pub returns-in-Ok : goal.returns-in-Ok
returns-in-Ok g c = record {
  searches = named_ends _ c.in-Ok.are_forced _ _ _ c.write_found-written.result _ c.args.found _ _ _ refl c.or_unwritten.ensures.named c.in-Ok.ensures.explores c.in-Ok.ensures.forced c.as_slice.ensures.value c.as_slice-in-Ok.ensures.value
      c.in-Ok-send_table.ensures.sends c.send_table.ensures.later c.write_found-written.ensures.writes;
}

pub returns-in-Err-send_table : goal.returns-in-Err-send_table
returns-in-Err-send_table g c = record {
  searches = table_stops _ c.in-Ok.are_forced _ _ c.in-Err-send_table.fault _ _ c.in-Ok.ensures.explores c.in-Ok.ensures.forced c.as_slice.ensures.value c.in-Err-send_table.ensures.sends;
}

pub send_table-requires-in-Err-NoMemory-clause-fits : goal.send_table-requires-in-Err-NoMemory-clause-fits
send_table-requires-in-Err-NoMemory-clause-fits g c =
    subst (λ (t : List Row). sum (map (λ row. row.count) t) < 18446744073709551616) (sym c.as_slice-in-Err-NoMemory.ensures.value)
    (some_fit _ _ _ c.args.limits.most c.args.limits.stretch _ c.requires.most c.requires.within c.in-Err-NoMemory.ensures.explores)

pub returns-in-Err-NoMemory : goal.returns-in-Err-NoMemory
returns-in-Err-NoMemory g c = record {
  searches = some_ends _ _ _ c.send_table-in-Err-NoMemory.result _ _ c.in-Err-NoMemory.ensures.explores c.as_slice-in-Err-NoMemory.ensures.value
      c.send_table-in-Err-NoMemory.ensures.sends c.send_table-in-Err-NoMemory.ensures.later;
}
