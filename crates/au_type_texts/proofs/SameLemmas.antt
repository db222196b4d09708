-- The test of two closed types is true exactly for equal ones.
use Rattle.std.proofs.Common.{◌≡◌, suc, Bool, true, false, List, [], ◌∷◌, length, refl, sym, ap, subst, ◌∙◌, Vec}
use Rattle.std.specs.Bool.{Decides}
use Rattle.std.proofs.lemmas.Bool.{and_parts, and_from}
use denote.Enum.Bare.{same_true, true_same}
use Rattle.std.specs.Global.{Global}
use Rattle.std.specs.declared.boxed.Box.{Box}
use Rattle.au_base.specs.declared.kinds.IntKind.{IntKind}
use Rattle.au_base.specs.contracts.kinds.IntKind.{the_type as kind}
use Rattle.au_types.specs.declared.types.DeclAt.{DeclAt}
use Rattle.au_types.specs.Rows.{same_place}
use Rattle.au_types.proofs.SameLemmas.{place_is, place_self}
use Rattle.au_type_texts.specs.declared.types.Closed.{Closed, Unit, Bool as Bool', Int, Text}
use Rattle.au_type_texts.specs.declared.types.Closed.{Named as Named-of, Named', Read, Read', Write, Write'}
use Rattle.au_type_texts.specs.declared.types.Closed.TheBlock.{shown-the_row-Closed-0, backs-Closed}
use Rattle.au_type_texts.specs.Same.{same, same_all}
use Rattle.au_type_texts.specs.Types.{ClosedType, ClosedTypes, unit, truth, integer, text, named, reads}
use Rattle.au_type_texts.specs.Types.{writes, no_types, types}
use Rattle.au_type_texts.specs.Views.{closed_meaning, closed_meanings}

mutual
  pub same_is : (a b : ClosedType) → same a b ≡ true → a ≡ b
  same_is unit unit e = refl
  same_is truth truth e = refl
  same_is (integer a) (integer b) e = ap integer (same_true kind tt a b e)
  same_is text text e = refl
  same_is (named a args) (named b others) e =
      let both = and_parts (same_place a b) (same_all args others) e in
      ap (λ p. named p args) (place_is a b both.0) ∙ ap (named b) (all_is args others both.1)
  same_is (reads a) (reads b) e = ap reads (same_is a b e)
  same_is (writes a) (writes b) e = ap writes (same_is a b e)
  same_is a b e = absurd cc

  pub all_is : (a b : ClosedTypes) → same_all a b ≡ true → a ≡ b
  all_is no_types no_types e = refl
  all_is (types a list) (types b others) e =
      let both = and_parts (same a b) (same_all list others) e in
      ap (λ one. types one list) (same_is a b both.0) ∙ ap (types b) (all_is list others both.1)
  all_is a b e = absurd cc

mutual
  pub same_self : (a : ClosedType) → same a a ≡ true
  same_self unit = refl
  same_self truth = refl
  same_self (integer a) = true_same kind a a refl
  same_self text = refl
  same_self (named a args) = and_from _ _ (place_self a) (all_self args)
  same_self (reads a) = same_self a
  same_self (writes a) = same_self a

  pub all_self : (a : ClosedTypes) → same_all a a ≡ true
  all_self no_types = refl
  all_self (types a list) = and_from _ _ (same_self a) (all_self list)

-- the test decides whether two closed types are equal
pub same_decides : (a b : ClosedType) → Decides (same a b) (a ≡ b)
same_decides a b = (same_is a b, λ e. subst (λ c. same a c ≡ true) e (same_self a))

-- lists that are the same have one length
same_lengths : (xs ys : List Closed) → same_all (closed_meanings xs) (closed_meanings ys) ≡ true → length xs ≡ length ys
same_lengths [] [] e = refl
same_lengths [] (y ∷ ys) e = absurd cc
same_lengths (x ∷ xs) [] e = absurd cc
same_lengths (x ∷ xs) (y ∷ ys) e =
    ap suc (same_lengths xs ys (and_parts (same (closed_meaning x) (closed_meaning y))
    (same_all (closed_meanings xs) (closed_meanings ys)) e).1)

-- so lists of two lengths are not the same
pub same_unequal : (xs ys : List Closed) → (length xs ≡ length ys → ⊥) →
    same_all (closed_meanings xs) (closed_meanings ys) ≡ false
same_unequal xs ys differ = by (same_all (closed_meanings xs) (closed_meanings ys)) refl
  where
    by : (b : Bool) → same_all (closed_meanings xs) (closed_meanings ys) ≡ b → b ≡ false
    by true e = absurd (differ (same_lengths xs ys e))
    by false e = refl

-- ---- a closed type that isn't of a variant's form is no other of that form

pub not_unit : (t : Closed) → (t ≡ Unit → ⊥) → same unit (closed_meaning t) ≡ false
unfolding closed_meaning
not_unit Unit differs = absurd (differs refl)
not_unit t differs = refl

pub not_truth : (t : Closed) → (t ≡ Bool' → ⊥) → same truth (closed_meaning t) ≡ false
unfolding closed_meaning
not_truth Bool' differs = absurd (differs refl)
not_truth t differs = refl

pub not_integer : (k : IntKind) (t : Closed) → ((x : IntKind) → t ≡ Int x → ⊥) →
    same (integer k) (closed_meaning t) ≡ false
unfolding closed_meaning
not_integer k (Int x) differs = absurd (differs x refl)
not_integer k t differs = refl

pub not_text : (t : Closed) → (t ≡ Text → ⊥) → same text (closed_meaning t) ≡ false
unfolding closed_meaning
not_text Text differs = absurd (differs refl)
not_text t differs = refl

pub not_named : (of : DeclAt) (args : ClosedTypes) (t : Closed) →
    ((x : DeclAt) (xs : Vec Closed Global) → t ≡ Named-of x xs → ⊥) → same (named of args) (closed_meaning t)
    ≡ false
unfolding closed_meaning
not_named of args (Named' x shape row) differs =
    absurd (differs x (shown-the_row-Closed-0 shape row) (sym (backs-Closed (Named' x shape row))))
not_named of args t differs = refl

pub not_reads : (to : ClosedType) (t : Closed) → ((x : Box Closed Global) → t ≡ Read x → ⊥) →
    same (reads to) (closed_meaning t) ≡ false
unfolding closed_meaning
not_reads to (Read' p x) differs = absurd (differs (record { ptr = p.ptr; alloc = p.alloc; value = x }) refl)
not_reads to t differs = refl

pub not_writes : (to : ClosedType) (t : Closed) → ((x : Box Closed Global) → t ≡ Write x → ⊥) →
    same (writes to) (closed_meaning t) ≡ false
unfolding closed_meaning
not_writes to (Write' p x) differs = absurd (differs (record { ptr = p.ptr; alloc = p.alloc; value = x }) refl)
not_writes to t differs = refl
