-- The first declaration that is refused is the same, whether all types that are infinite are known or the
-- first alone.
use Rattle.std.proofs.Common.{◌≡◌, inl, inr, Bool, true, false, cond, List, [], ◌∷◌, find, map, Option, None}
use Rattle.std.proofs.Common.{Some, refl, sym, ap, ◌∙◌, subst, true≢false}
use Rattle.std.specs.List.{cons_option, filter_map}
use Rattle.std.specs.Option.{option_map, option_or}
use Rattle.std.proofs.lemmas.Option.{none-some, same_Some}
use Rattle.au_syntax.specs.Plain.{PlainDeclaration}
use Rattle.au_types.specs.declared.types.DeclAt.{DeclAt}
use Rattle.au_types.proofs.SameLemmas.{place_is, place_self}
use Rattle.au_modules.specs.Programs.{ModuleParts}
use Rattle.au_names.specs.HeadsOf.{heads_of}
use Rattle.au_rules.specs.Doubles.{first_double}
use Rattle.au_imports.specs.Choices.{first_of, where_so}
use Rattle.au_promises.specs.Promises.{declaration_place}
use Rattle.au_formed.specs.declared.namings.Naming.{Naming}
use Rattle.au_formed.specs.Forms.{form_fault}
use Rattle.au_formed.specs.Infinite.{first_infinite, is_infinite, types_declared}
use Rattle.au_formed.specs.Naming.{naming, naming_at, names_in, namings, type_of}
use Rattle.au_formed.specs.Text.{Spot, text, visible_at}
use Rattle.au_rules.specs.declared.faults.DeclFault.{DeclFault}
use Rattle.au_rules.specs.declared.faults.DeclFault.TheVariants as fault
use Rattle.au_rules.specs.DeclFaults.{decl_fault, declaration_fault, fault_by, of_double, of_form, type_fault}
use Rattle.au_rules.specs.Tests.{is_this}

-- ---- what is found

-- what is found passes
found_passes : {A : Type 0} (p : A → Bool) (xs : List A) (x : A) → find p xs ≡ Some x → p x ≡ true
found_passes p [] x h = absurd (none-some x h)
found_passes p (y ∷ ys) x h = by (p y) refl h (found_passes p ys x)
  where
    by : (b : Bool) → p y ≡ b → cond b (Some y) (find p ys) ≡ Some x → (find p ys ≡ Some x → p x ≡ true)
        → p x ≡ true
    by true e k on = ap p (sym (same_Some y x k)) ∙ e
    by false e k on = on k

-- a type is this one
this_is : (first : Option DeclAt) (a : DeclAt) → is_this first a ≡ true → first ≡ Some a
this_is None a h = absurd (true≢false (sym h))
this_is (Some b) a h = ap Some (sym (place_is a b h))

this_same : (first : Option DeclAt) (a : DeclAt) → first ≡ Some a → is_this first a ≡ true
this_same first a h = ap (λ o. is_this o a) h ∙ place_self a

-- ---- what comes first

first_stays : {A : Type 0} (o p r s : Option A) (x : A) → p ≡ Some x
    → option_or (option_or o p) r ≡ option_or (option_or o p) s
first_stays None p r s x h = ap (λ q. option_or q r) h ∙ sym (ap (λ q. option_or q s) h)
first_stays (Some y) p r s x h = refl

last_stays : {A : Type 0} (o p q r s : Option A) (x : A) → q ≡ Some x
    → option_or (option_or o (option_or p q)) r ≡ option_or (option_or o (option_or p q)) s
last_stays o None q r s x h = first_stays o q r s x h
last_stays o (Some y) q r s x h = first_stays o (Some y) r s y refl

module _ (program : List ModuleParts) (first : Option DeclAt) where
  abbrev all : List Naming
  all = namings program

  abbrev by_all : Spot → Option DeclFault
  by_all s = fault_by (is_infinite all) program s

  abbrev by_first : Spot → Option DeclFault
  by_first s = fault_by (is_this first) program s

  -- the types that are declared from here on
  abbrev declared_from : List Spot → List DeclAt
  declared_from ss = types_declared (filter_map (naming_at program) ss)

  abbrev the_type : Spot → Option DeclAt
  the_type s = type_of (visible_at program s) s.says

  -- a declaration is refused for the same where the tests agree on its type
  same_here : (s : Spot) (t : Option DeclAt) → the_type s ≡ t
      → type_fault (is_this first) s.says t ≡ type_fault (is_infinite all) s.says t → by_first s ≡ by_all s
  same_here s t is same =
      let double = option_map of_double (first_double program s.at) in
      let form = option_map of_form (form_fault (visible_at program s) (heads_of program) s.says) in
      ap (λ u. option_or double (option_or form (type_fault (is_this first) s.says u))) is
      ∙ ap (λ u. option_or double (option_or form u)) same
      ∙ sym (ap (λ u. option_or double (option_or form (type_fault (is_infinite all) s.says u))) is)

  walk : (ss : List Spot) → find (is_infinite all) (declared_from ss) ≡ first
      → first_of by_first ss ≡ first_of by_all ss
  unfolding first_of
  walk [] h = refl
  walk (s ∷ ss) h = by (the_type s) refl h (walk ss)
    where
      make : DeclAt → Naming
      make a = record { of = a; names = names_in (visible_at program s) (heads_of program) s.says }

      goes : by_first s ≡ by_all s → first_of by_first ss ≡ first_of by_all ss
          → option_or (by_first s) (first_of by_first ss) ≡ option_or (by_all s) (first_of by_all ss)
      goes same rest = ap (λ o. option_or o (first_of by_first ss)) same ∙ ap (option_or (by_all s)) rest

      -- it declares a type
      typed : (a : DeclAt) → the_type s ≡ Some a → (b : Bool) → is_infinite all a ≡ b
          → cond b (Some a) (find (is_infinite all) (declared_from ss)) ≡ first
          → (find (is_infinite all) (declared_from ss) ≡ first → first_of by_first ss ≡ first_of by_all ss)
          → option_or (by_first s) (first_of by_first ss) ≡ option_or (by_all s) (first_of by_all ss)
      typed a is true e k rest =
          let this : is_this first a ≡ true = this_same first a (sym k) in
          let place = fault.Infinite (declaration_place s.says) in
          let one : type_fault (is_this first) s.says (Some a)
          ≡ Some place = ap (λ so. where_so so place) this in
          let other : type_fault (is_infinite all) s.says (Some a)
          ≡ Some place = ap (λ so. where_so so place) e in
          let some : type_fault (is_infinite all) s.says (the_type s)
          ≡ Some place = ap (type_fault (is_infinite all) s.says) is ∙ other in
          ap (λ o. option_or o (first_of by_first ss)) (same_here s (Some a) is (one ∙ sym other))
          ∙ last_stays (option_map of_double (first_double program s.at))
          (option_map of_form (form_fault (visible_at program s) (heads_of program) s.says))
          (type_fault (is_infinite all) s.says (the_type s)) (first_of by_first ss)
          (first_of by_all ss) place some
      typed a is false e k rest = goes (same_here s (Some a) is (apart (is_this first a) refl)) (rest k)
        where
          apart : (c : Bool) → is_this first a ≡ c
              → where_so (is_this first a) (fault.Infinite (declaration_place s.says))
              ≡ where_so (is_infinite all a) (fault.Infinite (declaration_place s.says))
          apart true f = absurd
              (true≢false (sym (found_passes (is_infinite all) (declared_from ss) a (k ∙ this_is first a f))
              ∙ e))
          apart false f = ap (λ so. where_so so (fault.Infinite (declaration_place s.says))) (f ∙ sym e)

      by : (t : Option DeclAt) → the_type s ≡ t
          → find (is_infinite all)
          (types_declared (cons_option (option_map make (the_type s))
          (filter_map (naming_at program) ss))) ≡ first
          → (find (is_infinite all) (declared_from ss) ≡ first → first_of by_first ss ≡ first_of by_all ss)
          → option_or (by_first s) (first_of by_first ss) ≡ option_or (by_all s) (first_of by_all ss)
      by None is k rest =
          let left : find (is_infinite all) (declared_from ss) ≡ first =
          sym (ap (λ t. find (is_infinite all)
          (types_declared (cons_option (option_map make t) (filter_map (naming_at program) ss)))) is)
          ∙ k in
          goes (same_here s None is refl) (rest left)
      by (Some a) is k rest =
          let left : cond (is_infinite all a) (Some a) (find (is_infinite all) (declared_from ss)) ≡ first =
          sym (ap (λ t. find (is_infinite all)
          (types_declared (cons_option (option_map make t) (filter_map (naming_at program) ss)))) is)
          ∙ k in
          typed a is (is_infinite all a) refl left rest

-- the first declaration of a program that is refused
pub same_fault : (program : List ModuleParts) (first : Option DeclAt)
    → first ≡ first_infinite (namings program)
    → first_of (fault_by (is_this first) program) (text program) ≡ decl_fault program
same_fault program first is = walk program first (text program) (sym is)
