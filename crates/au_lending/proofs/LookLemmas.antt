-- Names that may be looked at: those that are ready, or lent to read.
use Rattle.std.proofs.Common.{ℕ, List}
use Rattle.au_places.specs.Memories.{Memory}
use Rattle.au_types.specs.Types.{Meaning}
use Rattle.au_memory.specs.Loans.{Types, Table}
use Rattle.au_memory.specs.Forests.{Forest, Hold, Roots, empty, ready, shut, watched, IsFull, IsNameRow, IsWhole}
use Rattle.au_memory.specs.Forests.{NameStands}
use Rattle.au_lending.specs.Laws.{IsReadable}

pub readable_full : (h : Hold) → IsReadable h → IsFull h
readable_full empty looks = looks
readable_full ready looks = tt
readable_full (shut z) looks = absurd looks
readable_full (watched tokens) looks = tt

pub readable_stands : (types : Types) (s : Table) (f : Forest) (m : Memory (List ℕ)) (root : Roots) (a y : ℕ)
    (t : Meaning) (h : Hold) → IsReadable h → NameStands types s f m root a y t h
    → IsNameRow s (root a y) a y t × IsWhole (f (root a y))
readable_stands types s f m root a y t empty looks stands = absurd looks
readable_stands types s f m root a y t ready looks stands = (stands.0, stands.1)
readable_stands types s f m root a y t (shut z) looks stands = absurd looks
readable_stands types s f m root a y t (watched tokens) looks stands = (stands.0, stands.1)
