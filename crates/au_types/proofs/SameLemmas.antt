-- The test of two types is true exactly for equal ones.
use Rattle.std.proofs.Common.{◌≡◌, ℕ, suc, Bool, true, false, ◌==◌, List, [], ◌∷◌, length, refl, sym, ap}
use Rattle.std.proofs.Common.{subst, ◌∙◌, Vec}
use Rattle.std.specs.Bool.{Decides}
use Rattle.std.proofs.lemmas.Bool.{and_parts, and_from, eqb-true, eq-eqb}
use Rattle.std.proofs.lemmas.Slice.Eq.{bytes_eq-Decides}
use denote.Enum.Bare.{same_true, true_same}
use Rattle.std.specs.Global.{Global}
use Rattle.std.specs.declared.boxed.Box.{Box}
use Rattle.au_base.specs.declared.kinds.IntKind.{IntKind}
use Rattle.au_base.specs.contracts.kinds.IntKind.{the_type as kind}
use Rattle.au_types.specs.declared.types.DeclAt.{DeclAt}
use Rattle.au_types.specs.declared.types.Arg.{Arg}
use Rattle.au_types.specs.declared.types.Arg.TheBlock.{shown-the_row-Arg-0, backs-Ty}
use Rattle.au_types.specs.declared.types.Ty.{Ty, Unit, Bool as Bool', Int, Text, Param, Named as Named-of}
use Rattle.au_types.specs.declared.types.Ty.{Named', Read, Read', Write, Write'}
use Rattle.au_types.specs.declared.types.Region.{Region}
use Rattle.au_types.specs.declared.types.Region.TheVariants.{Static, Named, Anonymous}
use Rattle.au_types.specs.Rows.{same_place}
use Rattle.au_types.specs.Same.{same_region, same, same_argument, same_all}
use Rattle.au_types.specs.Types.{Meaning, Argument, Arguments, unit, truth, integer, text, parameter, named}
use Rattle.au_types.specs.Types.{reads, writes, of_type, in_region, no_arguments, arguments}
use Rattle.au_types.specs.Views.{meaning, argument, argument_all}

-- ---- equal where the test is true

pub place_is : (a b : DeclAt) → same_place a b ≡ true → a ≡ b
place_is a b e =
    let both = and_parts (a.«module» == b.«module») (a.decl == b.decl) e in
    let first : a.«module» ≡ b.«module» = eqb-true a.«module» b.«module» both.0 in
    let second : a.decl ≡ b.decl = eqb-true a.decl b.decl both.1 in
    λ j. record { «module» = first j; decl = second j }

pub region_is : (a b : Region) → same_region a b ≡ true → a ≡ b
region_is Static Static e = refl
region_is (Named a) (Named b) e = ap Named ((bytes_eq-Decides a b).0 e)
region_is Anonymous Anonymous e = refl
region_is a b e = absurd cc

mutual
  pub same_is : (a b : Meaning) → same a b ≡ true → a ≡ b
  same_is unit unit e = refl
  same_is truth truth e = refl
  same_is (integer a) (integer b) e = ap integer (same_true kind tt a b e)
  same_is text text e = refl
  same_is (parameter a) (parameter b) e = ap parameter ((bytes_eq-Decides a b).0 e)
  same_is (named a args) (named b others) e =
      let both = and_parts (same_place a b) (same_all args others) e in
      ap (λ p. named p args) (place_is a b both.0) ∙ ap (named b) (all_is args others both.1)
  same_is (reads a r) (reads b s) e =
      let both = and_parts (same a b) (same_region r s) e in
      ap (λ t. reads t r) (same_is a b both.0) ∙ ap (reads b) (region_is r s both.1)
  same_is (writes a r) (writes b s) e =
      let both = and_parts (same a b) (same_region r s) e in
      ap (λ t. writes t r) (same_is a b both.0) ∙ ap (writes b) (region_is r s both.1)
  same_is a b e = absurd cc

  pub argument_is : (a b : Argument) → same_argument a b ≡ true → a ≡ b
  argument_is (of_type a) (of_type b) e = ap of_type (same_is a b e)
  argument_is (in_region r) (in_region s) e = ap in_region (region_is r s e)
  argument_is a b e = absurd cc

  pub all_is : (a b : Arguments) → same_all a b ≡ true → a ≡ b
  all_is no_arguments no_arguments e = refl
  all_is (arguments a args) (arguments b others) e =
      let both = and_parts (same_argument a b) (same_all args others) e in
      ap (λ one. arguments one args) (argument_is a b both.0) ∙ ap (arguments b) (all_is args others both.1)
  all_is a b e = absurd cc

-- ---- true where they are equal

pub place_self : (a : DeclAt) → same_place a a ≡ true
place_self a = and_from _ _ (eq-eqb a.«module» a.«module» refl) (eq-eqb a.decl a.decl refl)

pub region_self : (a : Region) → same_region a a ≡ true
region_self Static = refl
region_self (Named a) = (bytes_eq-Decides a a).1 refl
region_self Anonymous = refl

-- the test decides whether two regions are equal
pub region_decides : (a b : Region) → Decides (same_region a b) (a ≡ b)
region_decides a b = (region_is a b, λ e. subst (λ c. same_region a c ≡ true) e (region_self a))

mutual
  pub same_self : (a : Meaning) → same a a ≡ true
  same_self unit = refl
  same_self truth = refl
  same_self (integer a) = true_same kind a a refl
  same_self text = refl
  same_self (parameter a) = (bytes_eq-Decides a a).1 refl
  same_self (named a args) = and_from _ _ (place_self a) (all_self args)
  same_self (reads a r) = and_from _ _ (same_self a) (region_self r)
  same_self (writes a r) = and_from _ _ (same_self a) (region_self r)

  pub argument_self : (a : Argument) → same_argument a a ≡ true
  argument_self (of_type a) = same_self a
  argument_self (in_region r) = region_self r

  pub all_self : (a : Arguments) → same_all a a ≡ true
  all_self no_arguments = refl
  all_self (arguments a args) = and_from _ _ (argument_self a) (all_self args)

-- the test decides whether two types are equal
pub same_decides : (a b : Meaning) → Decides (same a b) (a ≡ b)
same_decides a b = (same_is a b, λ e. subst (λ c. same a c ≡ true) e (same_self a))

-- ---- lists of arguments

-- lists that are the same have one length
pub same_lengths : (xs ys : List Arg) → same_all (argument_all xs) (argument_all ys) ≡ true → length xs ≡ length ys
same_lengths [] [] e = refl
same_lengths [] (y ∷ ys) e = absurd cc
same_lengths (x ∷ xs) [] e = absurd cc
same_lengths (x ∷ xs) (y ∷ ys) e =
    ap suc (same_lengths xs ys (and_parts (same_argument (argument x) (argument y))
    (same_all (argument_all xs) (argument_all ys)) e).1)

-- so lists of two lengths are not the same
pub same_unequal : (xs ys : List Arg) → (length xs ≡ length ys → ⊥) →
    same_all (argument_all xs) (argument_all ys) ≡ false
same_unequal xs ys differ = by (same_all (argument_all xs) (argument_all ys)) refl
  where
    by : (b : Bool) → same_all (argument_all xs) (argument_all ys) ≡ b → b ≡ false
    by true e = absurd (differ (same_lengths xs ys e))
    by false e = refl

-- ---- a type that isn't of a variant's form is no other of that form

pub not_unit : (t : Ty) → (t ≡ Unit → ⊥) → same unit (meaning t) ≡ false
unfolding meaning
not_unit Unit differs = absurd (differs refl)
not_unit t differs = refl

pub not_truth : (t : Ty) → (t ≡ Bool' → ⊥) → same truth (meaning t) ≡ false
unfolding meaning
not_truth Bool' differs = absurd (differs refl)
not_truth t differs = refl

pub not_integer : (k : IntKind) (t : Ty) → ((x : IntKind) → t ≡ Int x → ⊥) → same (integer k) (meaning t) ≡ false
unfolding meaning
not_integer k (Int x) differs = absurd (differs x refl)
not_integer k t differs = refl

pub not_text : (t : Ty) → (t ≡ Text → ⊥) → same text (meaning t) ≡ false
unfolding meaning
not_text Text differs = absurd (differs refl)
not_text t differs = refl

pub not_parameter : (name : List ℕ) (t : Ty) → ((x : List ℕ) → t ≡ Param x → ⊥) →
    same (parameter name) (meaning t) ≡ false
unfolding meaning
not_parameter name (Param x) differs = absurd (differs x refl)
not_parameter name t differs = refl

pub not_named : (of : DeclAt) (args : Arguments) (t : Ty) →
    ((x : DeclAt) (xs : Vec Arg Global) → t ≡ Named-of x xs → ⊥) → same (named of args) (meaning t) ≡ false
unfolding meaning
not_named of args (Named' x shape row) differs =
    absurd (differs x (shown-the_row-Arg-0 shape row) (sym (backs-Ty (Named' x shape row))))
not_named of args t differs = refl

pub not_reads : (to : Meaning) (r : Region) (t : Ty) → ((x : Box Ty Global) (s : Region) → t ≡ Read x s → ⊥) →
    same (reads to r) (meaning t) ≡ false
unfolding meaning
not_reads to r (Read' p x s) differs = absurd (differs (record { ptr = p.ptr; alloc = p.alloc; value = x }) s refl)
not_reads to r t differs = refl

pub not_writes : (to : Meaning) (r : Region) (t : Ty) → ((x : Box Ty Global) (s : Region) → t ≡ Write x s → ⊥)
    → same (writes to r) (meaning t) ≡ false
unfolding meaning
not_writes to r (Write' p x s) differs = absurd (differs (record { ptr = p.ptr; alloc = p.alloc; value = x }) s refl)
not_writes to r t differs = refl
