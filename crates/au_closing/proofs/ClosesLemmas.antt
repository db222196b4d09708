-- Instances told apart, and the list of those that a program reaches.
use Rattle.std.proofs.Common.{◌≡◌, suc, Bool, true, false, List, [], ◌∷◌, ◌&&◌, map, refl, sym, ap, subst, ◌∙◌}
use Rattle.std.specs.Prelude.{◌||◌, Some, if◌then◌else◌, slice_get}
use Rattle.std.specs.Str.{bytes_eq}
use Rattle.std.proofs.lemmas.Bool.{and_from, and_parts}
use Rattle.std.proofs.lemmas.Slice.Eq.{bytes_eq-Decides}
use Rattle.au_types.specs.Rows.{same_place}
use Rattle.au_types.proofs.SameLemmas.{place_is, place_self}
use Rattle.au_modules.specs.Programs.{ModuleParts}
use Rattle.au_typing.specs.Trees.{NotedParts}
use Rattle.au_type_texts.specs.Given.{same_given}
use Rattle.au_type_texts.proofs.GivenLemmas.{given_is, given_self}
use Rattle.au_graphs.specs.Reached.{Has, Lists, TellsSame, all_next, follows, has}
use Rattle.au_graphs.proofs.FoundLemmas.{has_all, one_list}
use Rattle.au_graphs.proofs.HasLemmas.{adds_more}
use Rattle.au_closing.specs.Closes.{ClosedFunction, ClosesFunctions, calls_of, instance_closed}
use Rattle.au_closing.specs.Instances.{Instance, place_in, same_instance}

-- ---- instances are told apart

instance_is : (a b : Instance) → same_instance a b ≡ true → a ≡ b
instance_is a b e =
    let here = same_place a.of.at b.of.at && bytes_eq a.of.name b.of.name in
    let rest = and_parts here (same_given a.given b.given) e in
    let both = and_parts (same_place a.of.at b.of.at) (bytes_eq a.of.name b.of.name) rest.0 in
    λ i. record {
      of = record {
        at = place_is a.of.at b.of.at both.0 i;
        name = (bytes_eq-Decides a.of.name b.of.name).0 both.1 i;
      };
      given = given_is a.given b.given rest.1 i;
    }

instance_self : (a : Instance) → same_instance a a ≡ true
instance_self a =
    and_from _ _
    (and_from _ _ (place_self a.of.at) ((bytes_eq-Decides a.of.name a.of.name).1 refl))
    (given_self a.given)

pub instances_told : TellsSame same_instance
instances_told = record { agrees = instance_is; itself = instance_self }

-- ---- numbers lead back

number_back : (x k : Instance) (ks : List Instance) (b : Bool) → same_instance x k ≡ b
    → (Has same_instance ks x → slice_get ks (place_in x ks) ≡ Some x)
    → (b ≡ true → k ≡ x)
    → (b ≡ false → Has same_instance ks x)
    → slice_get (k ∷ ks) (if b then 0 else suc (place_in x ks)) ≡ Some x
number_back x k ks true is later here there = ap Some (here refl)
number_back x k ks false is later here there = later (there refl)

pub place_back : (ks : List Instance) (x : Instance) → Has same_instance ks x
    → slice_get ks (place_in x ks) ≡ Some x
place_back [] x h = absurd cc
place_back (k ∷ ks) x h =
    number_back x k ks (same_instance x k) refl (place_back ks x) (λ e. sym (instance_is x k e))
    (λ e. subst (λ b. (b || has same_instance ks x) ≡ true) e h)

-- ---- the list of a program's instances

module _ (program : List ModuleParts) (noted : List NotedParts) (entry : Instance) where
  -- the entry is the first
  pub entry_first : (ks : List Instance) → Lists same_instance (calls_of program noted) (entry ∷ []) ks
      → slice_get ks 0 ≡ Some entry
  entry_first ks lists =
      let more = adds_more same_instance (entry ∷ []) (all_next (calls_of program noted) ks) in
      ap (λ l. slice_get l 0) (lists.order ∙ more.1)

  -- what one of them calls is one of them
  pub called_too : (ks : List Instance) → Lists same_instance (calls_of program noted) (entry ∷ []) ks
      → (k x : Instance) → Has same_instance ks k → Has same_instance (calls_of program noted k) x
      → Has same_instance ks x
  called_too ks lists k x h c =
      has_all same_instance instances_told (calls_of program noted) (entry ∷ []) ks lists.order x
      (follows k x (lists.reached k h) c)

-- lists of what is there are equal where they are so as lists of what may be there
all_there : {A : Type 0} (xs ys : List A) → map Some xs ≡ map Some ys → xs ≡ ys
all_there [] [] e = refl
all_there [] (y ∷ ys) e = absurd cc
all_there (x ∷ xs) [] e = absurd cc
all_there (x ∷ xs) (y ∷ ys) e =
    let first : x ≡ y = cc in
    let rest : map Some xs ≡ map Some ys = cc in
    ap (λ z. z ∷ xs) first ∙ ap (λ l. y ∷ l) (all_there xs ys rest)

-- there is one closing of a program from an entry
pub one_closing : (program : List ModuleParts) (noted : List NotedParts) (entry : Instance)
    (these those : List ClosedFunction)
    → (one : ClosesFunctions program noted entry these)
    → (other : ClosesFunctions program noted entry those)
    → (one.instances ≡ other.instances) × (these ≡ those)
one_closing program noted entry these those one other =
    let same = one_list same_instance instances_told (calls_of program noted) (entry ∷ []) one.instances
    other.instances one.lists other.lists in (
      same,
      all_there these those
          (one.closed ∙ ap (λ l. map (instance_closed program noted l) l) same ∙ sym other.closed),
    )
