-- Borrows are exclusive in a world that is as it should be.
use Rattle.std.proofs.Common.{◌≡◌, ◌⊎◌, inl, inr, ℕ, zero, suc, ◌+◌, ◌≤◌, ◌<◌, ◌==◌, Bool, true, false, List, [], ◌∷◌, length}
use Rattle.std.proofs.Common.{map, get_or, Contains, Option, Some, refl, sym, ap, subst, ◌∙◌, arith}
use Rattle.std.proofs.lemmas.Bool.{eq-eqb}
use Rattle.au_effects.specs.Values.{Place, reference}
use Rattle.au_type_texts.specs.Types.{ClosedType}
use Rattle.au_syntax.specs.declared.types.Access.{Access}
use Rattle.au_syntax.specs.declared.types.Access.TheVariants.{Read, Write}
use Rattle.au_events.specs.Counts.{one_if}
use Rattle.au_memory.specs.Forests.{Made}
use Rattle.au_memory.specs.Loans.{IsLoan, IsWriter, Loan, Types, Via, named, lent_of, lent_through, part_of, reading}
use Rattle.au_memory.specs.Trees.{Tree}
use Rattle.au_borrows.specs.Invariants.{Inv, is_writer}
use Rattle.au_borrows.specs.Orders.{Act, Lying, is_active}
use Rattle.au_borrows.specs.Told.{IsOpen, Open, times}
use Rattle.au_agreeing.specs.Stores.{memory_of, told_of}
use Rattle.au_frames.specs.Frames.{Frame, hold_at, type_at}
use Rattle.au_meaning.specs.Worlds.{Borrow, World}
use Rattle.au_readers.specs.Exclusive.{IsHeldAt, OnlyWrites, Overlap, Spot}
use Rattle.au_readers.proofs.ExclusiveLemmas.{held_apart, held_spares}
use Rattle.au_safe_acts.specs.Exclusive.{IsExclusive}
use Rattle.au_safe_acts.specs.Good.{IsIn, lying_in, open_of, writes_to}

-- ---- open borrows

open_there : (xs : List Borrow) (one : Borrow) → Contains xs one → IsOpen (open_of one) (map open_of xs)
open_there [] one c = absurd (omega (arith, c.1))
open_there (x ∷ xs) one c = by c.0 c.1 c.2 (open_there xs one)
  where
    by : (k : ℕ) → k < length (x ∷ xs) → get_or (x ∷ xs) k one ≡ one
        → (Contains xs one → IsOpen (open_of one) (map open_of xs)) → IsOpen (open_of one) (map open_of (x ∷ xs))
    by zero within here rest = inl (ap open_of here)
    by (suc k) within here rest = inr (rest (k, omega (arith, within), here))

open_times : (one : Open) (xs : Lying) → IsOpen one xs → 1 ≤ times one.number xs
open_times one [] is = absurd is
open_times one (x ∷ xs) (inl same) =
    let own : one_if (x.number == one.number) ≡ 1 =
    ap one_if (eq-eqb x.number one.number (ap (λ (o : Open). o.number) same)) in
    omega (arith, own)
open_times one (x ∷ xs) (inr is) = let rest = open_times one xs is in omega (arith, rest)

writer_so : (via : Via) → is_writer via ≡ true → IsWriter via
writer_so named e = absurd cc
writer_so (lent_of k) e = tt
writer_so (lent_through holder k) e = tt
writer_so (part_of k) e = tt
writer_so (reading k tree) e = absurd cc

reader_so : (via : Via) → IsLoan via → is_writer via ≡ false → (from : ℕ) × (tree : Tree) × (via ≡ reading from tree)
reader_so named loan e = absurd loan
reader_so (lent_of k) loan e = absurd cc
reader_so (lent_through holder k) loan e = absurd cc
reader_so (part_of k) loan e = absurd cc
reader_so (reading k tree) loan e = (k, tree, refl)

module _ (types : Types) (owner : ClosedType → Option (List ℕ)) (acts : List Act) (fs : List Frame)
    (sizes : List ℕ) (under : Made) (w : World) (state : IsIn types owner acts fs sizes under w) where
  abbrev inv : Inv types owner acts (hold_at fs) (type_at fs) under state.safe.rows (memory_of w.store)
      (told_of (lying_in w) w.store)
  inv = state.safe.inv

  abbrev Only : ℕ → Type 0
  Only b =
      OnlyWrites types inv.clock (is_active acts) (is_active acts) (hold_at fs) (type_at fs) under state.safe.rows
      (memory_of w.store) inv.core b

  -- each loan of a write borrow that is open writes, and its token is active
  only : (one : Borrow) → Contains w.borrows one → one.access ≡ Write → Only one.number
  only one is writes g l row loan number =
      let there = open_there w.borrows one is in (
        writer_so l.via
            (inv.linked.kind g l (open_of one) row loan there (sym number) ∙ ap writes_to writes),
        inv.linked.alive g l row loan
            (subst (λ b. 1 ≤ times b (lying_in w)) (sym number) (open_times (open_of one) (lying_in w) there)),
      )

  pub is_exclusive : IsExclusive w
  is_exclusive = record {
    writers = λ one is writes here there p q differ held also overlap.
        held_apart types inv.clock (is_active acts) (is_active acts) (hold_at fs) (type_at fs) under state.safe.rows
        (memory_of w.store) inv.core one.number (only one is writes) inv.linked.ordered here there p q differ held also
        overlap;
    reads = spares;
  }
    where
      spares : (one : Borrow) → Contains w.borrows one → one.access ≡ Write → (here : Spot) (p : Place)
          → IsHeldAt (memory_of w.store) here (reference one.number p) → (seen : Borrow) → Contains w.borrows seen
          → seen.access ≡ Read → Overlap (memory_of w.store) p seen.place → ⊥
      spares one is writes here p held seen also reads overlap =
          let there = open_there w.borrows seen also in
          let loan = inv.linked.seen (open_of seen) there in
          let reader = reader_so loan.row.via loan.is_loan (loan.writes ∙ ap writes_to reads) in
          held_spares types inv.clock (is_active acts) (is_active acts) (hold_at fs) (type_at fs) under state.safe.rows
          (memory_of w.store) inv.core one.number (only one is writes) here p held loan.loan loan.row reader.0 reader.1
          loan.has reader.2
          (inv.linked.alive loan.loan loan.row loan.has loan.is_loan
          (subst (λ b. 1 ≤ times b (lying_in w)) (sym loan.borrow) (open_times (open_of seen) (lying_in w) there)))
          (subst (λ x. Overlap (memory_of w.store) p x) (sym loan.at) overlap)
