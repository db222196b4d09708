-- The walk over a pattern and a target, step by step.
use Rattle.std.proofs.Common.{◌≡◌, suc, List, [], ◌∷◌, length, refl, sym, ap, Vec}
use Rattle.std.specs.Prelude.{Option, Some, None}
use Rattle.std.specs.Global.{Global}
use Rattle.std.specs.declared.boxed.Box.{Box}
use Rattle.au_types.specs.declared.types.DeclAt.{DeclAt}
use Rattle.au_types.specs.declared.types.Region.{Region}
use Rattle.au_types.specs.declared.types.Arg.{Arg}
use Rattle.au_types.specs.declared.types.Arg.TheBlock.{shown-the_row-Arg-0, backs-Ty}
use Rattle.au_types.specs.declared.types.Ty.{Ty, Named as Named-of, Named', Read, Read', Write, Write'}
use Rattle.au_types.specs.Types.{Meaning, Arguments, named, reads, writes}
use Rattle.au_types.specs.Views.{meaning, argument, argument_all}
use Rattle.au_matching.specs.Bindings.{Bindings}
use Rattle.au_matching.specs.Matched.{and_then, matched, argument_matched, all_matched}

-- ---- a target that isn't of the pattern's form

pub not_named : (of : DeclAt) (args : Arguments) (t : Ty) (s : Bindings) →
    ((x : DeclAt) (xs : Vec Arg Global) → t ≡ Named-of x xs → ⊥) → matched (named of args) (meaning t) s ≡ None
unfolding meaning
not_named of args (Named' x shape row) s differs =
    absurd (differs x (shown-the_row-Arg-0 shape row) (sym (backs-Ty (Named' x shape row))))
not_named of args t s differs = refl

pub not_reads : (to : Meaning) (r : Region) (t : Ty) (s : Bindings) →
    ((x : Box Ty Global) (q : Region) → t ≡ Read x q → ⊥) → matched (reads to r) (meaning t) s ≡ None
unfolding meaning
not_reads to r (Read' p x q) s differs = absurd (differs (record { ptr = p.ptr; alloc = p.alloc; value = x }) q refl)
not_reads to r t s differs = refl

pub not_writes : (to : Meaning) (r : Region) (t : Ty) (s : Bindings) →
    ((x : Box Ty Global) (q : Region) → t ≡ Write x q → ⊥) → matched (writes to r) (meaning t) s ≡ None
unfolding meaning
not_writes to r (Write' p x q) s differs = absurd (differs (record { ptr = p.ptr; alloc = p.alloc; value = x }) q refl)
not_writes to r t s differs = refl

-- ---- lists of arguments

-- lists that match have one length
matched_lengths : (xs ys : List Arg) (s q : Bindings) → all_matched (argument_all xs) (argument_all ys) s
    ≡ Some q → length xs ≡ length ys
matched_lengths [] [] s q e = refl
matched_lengths [] (y ∷ ys) s q e = absurd cc
matched_lengths (x ∷ xs) [] s q e = absurd cc
matched_lengths (x ∷ xs) (y ∷ ys) s q e =
    ap suc (by (argument_matched (argument x) (argument y) s) (λ m d. matched_lengths xs ys m q d) e)
  where
    by : (o : Option Bindings) → ((m : Bindings) → all_matched (argument_all xs) (argument_all ys) m
        ≡ Some q → length xs ≡ length ys) → and_then o (all_matched (argument_all xs) (argument_all ys))
        ≡ Some q → length xs ≡ length ys
    by None rest d = absurd cc
    by (Some m) rest d = rest m d

-- so lists of two lengths don't match
pub matched_unequal : (xs ys : List Arg) (s : Bindings) → (length xs ≡ length ys → ⊥) →
    all_matched (argument_all xs) (argument_all ys) s ≡ None
matched_unequal xs ys s differ = by (all_matched (argument_all xs) (argument_all ys) s) refl
  where
    by : (o : Option Bindings) → all_matched (argument_all xs) (argument_all ys) s ≡ o → o ≡ None
    by None e = refl
    by (Some q) e = absurd (differ (matched_lengths xs ys s q e))
