-- The bits are sought in the rows that are left.
use Rattle.std.proofs.Common.{◌≡◌, drop, map}
use Rattle.rv_isa.specs.Table.{seen}
use Rattle.rv_disasm.specs.Disassembly.{row_seen}
use Rattle.rv_disasm.proofs.RowSearch.{row_from}
use Rattle.rv_disasm.proofs.rows.row_of.Given as goal

abbrev pub invariant-loop-row : goal.invariant-loop-row
invariant-loop-row l = row_seen l.word ≡ row_from (map seen (drop l.row-index l.row-items)) l.word
