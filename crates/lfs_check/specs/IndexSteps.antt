-- The steps of a call on index blocks: the first free one is taken, and one that is held is given back.
use Rattle.std.specs.Prelude.{ℕ}
use Rattle.lfs_check.specs.Laid.{Shape, index_in, with_header}

-- takes the first free index block
abbrev pub index_taken : Shape → Shape
index_taken d = with_header d (record d.header { free_index = (index_in d d.header.free_index).next })

-- puts the index block that is held first before the free ones, once it names them
abbrev pub index_freed : Shape → ℕ → Shape
index_freed d i = with_header d (record d.header { free_index = i })
