-- Promises are refused for nothing exactly where every body fulfils its interface.
use Rattle.std.proofs.Common.{◌≡◌, ℕ, inl, inr, Bool, true, false, cond, List, [], ◌∷◌, ◌++◌, Option, Some}
use Rattle.std.proofs.Common.{None, refl, true≢false, ap, sym, ◌∙◌, subst, find, IsTrue}
use Rattle.std.specs.Prelude.{if◌then◌else◌}
use Rattle.std.specs.Bool.{Decides}
use Rattle.std.specs.Option.{option_map}
use Rattle.std.proofs.lemmas.Option.{none-some, same_Some}
use Rattle.au_base.proofs.OptionLemmas.{or_first, or_second, or_neither}
use Rattle.au_syntax.specs.Modules.{constant, opaque_type, function, instance}
use Rattle.au_syntax.specs.Plain.{Bytes, PlainDeclaration, PlainModule}
use Rattle.au_modules.specs.Programs.{Entry, ModuleParts}
use Rattle.au_promises.specs.declared.faults.PromiseFault.TheVariants.{Differs}
use Rattle.au_names.proofs.AmongLemmas.{Among, among, contains, nothing_all, nothing_at}
use Rattle.au_modules.specs.Seen.{body_tree, interface_tree}
use Rattle.au_promises.specs.Agreeing.{Sight, sight_of}
use Rattle.au_promises.specs.Promises.{
  declaration_place,
  promised,
  defines,
  keeps,
  kept_by,
  promise_fault_of,
  unkept,
  parts_fault,
  module_fault,
  faults_from,
  promise_fault,
}
use Rattle.au_promises.specs.Fulfilled.{Defines, IsFirst, IsKept, Fulfils, AllFulfil}
use Rattle.au_promises.proofs.DecidingLemmas.{defines_decides, keeps_decides}
use Rattle.au_promises.proofs.PromiseLemmas.{faults_nil, faults_cons}

-- ---- the first definition

-- a test fails where what it decides doesn't hold
fails : {P : Type 0} (b : Bool) → Decides b P → (P → ⊥) → b ≡ false
fails true decides never = absurd (never (decides.0 refl))
fails false decides never = refl

module _ (sight : Sight) (promise : PlainDeclaration) where
  -- what is found is the first
  first_from : (body : List PlainDeclaration) (d : PlainDeclaration)
      → find (defines sight promise) body ≡ Some d → IsFirst sight promise body d
  first_from [] d h = absurd (none-some d h)
  first_from (x ∷ xs) d h = by (defines sight promise x) refl (λ found. first_from xs d found)
    where
      by : (b : Bool) → defines sight promise x ≡ b
          → (find (defines sight promise) xs ≡ Some d → IsFirst sight promise xs d)
          → IsFirst sight promise (x ∷ xs) d
      by true e later =
          let here : x ≡ d = same_Some x d
          (sym (ap (λ b. cond b (Some x) (find (defines sight promise) xs)) e) ∙ h) in
          record {
            before = [];
            after = xs;
            stands = ap (λ y. y ∷ xs) here;
            defines = subst (λ y. Defines sight promise y) here ((defines_decides sight promise x).0 e);
            none = λ y c. absurd (among [] y c);
          }
      by false e later =
          let rest : IsFirst sight promise xs d =
          later (sym (ap (λ b. cond b (Some x) (find (defines sight promise) xs)) e) ∙ h) in
          let not_x : Defines sight promise x
          → ⊥ = λ p. true≢false (sym ((defines_decides sight promise x).1 p) ∙ e) in
          let earlier : (y : PlainDeclaration) → Among y (x ∷ rest.before) → Defines sight promise y → ⊥ =
          λ y one. elim one as (λ s. Defines sight promise y → ⊥) [
            | inl here ↦ λ p.
                not_x (subst (λ z. Defines sight promise z) (sym here) p)
            | inr behind ↦ rest.none y
                (contains rest.before y behind)
          ] in
          record {
            before = x ∷ rest.before;
            after = rest.after;
            stands = ap (λ ys. x ∷ ys) rest.stands;
            defines = rest.defines;
            none = λ y c. earlier y (among (x ∷ rest.before) y c);
          }

  -- the first is found
  found_at : (before after : List PlainDeclaration) (d : PlainDeclaration)
      → Defines sight promise d → ((y : PlainDeclaration) → Among y before → Defines sight promise y → ⊥)
      → find (defines sight promise) (before ++ d ∷ after) ≡ Some d
  found_at [] after d holds none = ap (λ b. cond b (Some d) (find (defines sight promise) after))
      ((defines_decides sight promise d).1 holds)
  found_at (x ∷ xs) after d holds none =
      ap (λ b. cond b (Some x) (find (defines sight promise) (xs ++ d ∷ after)))
      (fails (defines sight promise x) (defines_decides sight promise x) (none x (inl refl)))
      ∙ found_at xs after d holds (λ y later. none y (inr later))

  first_to : (body : List PlainDeclaration) (d : PlainDeclaration) → IsFirst sight promise body d
      → find (defines sight promise) body ≡ Some d
  first_to body d first =
      ap (find (defines sight promise)) first.stands
      ∙ found_at first.before first.after d first.defines
      (λ y one. first.none y (contains first.before y one))

  -- the tests say that a promise is kept
  abbrev pub Passes : List PlainDeclaration → Type 0
  Passes body = (d : PlainDeclaration) × (find (defines sight promise) body ≡ Some d)
      × IsTrue (keeps sight promise d)

  kept_from : (body : List PlainDeclaration) → Passes body → IsKept sight body promise
  kept_from body passes = (
    passes.0,
    first_from body passes.0 passes.1,
    (keeps_decides sight promise passes.0).0 passes.2,
  )

  pub kept_passes : (body : List PlainDeclaration) → IsKept sight body promise → Passes body
  kept_passes body kept = (kept.0, first_to body kept.0 kept.1, (keeps_decides sight promise kept.0).1 kept.2)

-- ---- one promise

agrees : {A : Type 0} (b : Bool) (x : A) → (if b then None else Some x) ≡ None → b ≡ true
agrees true x h = refl
agrees false x h = cc

module _ (sight : Sight) where
  kept_is : (name : Bytes) (promise : PlainDeclaration) (o : Option PlainDeclaration)
      → kept_by sight name promise o ≡ None
      → (d : PlainDeclaration) × (o ≡ Some d) × IsTrue (keeps sight promise d)
  kept_is name promise None h = absurd (none-some _ (sym h))
  kept_is name promise (Some d) h = (
    d,
    refl,
    agrees (keeps sight promise d) (Differs (declaration_place promise)
        (declaration_place d) name) h,
  )

  kept_to : (name : Bytes) (promise : PlainDeclaration) (o : Option PlainDeclaration) (d : PlainDeclaration)
      → o ≡ Some d → keeps sight promise d ≡ true
      → kept_by sight name promise o ≡ None
  kept_to name promise o d found agreed =
      ap (kept_by sight name promise) found
      ∙ ap (λ b. if b then None else Some (Differs (declaration_place promise) (declaration_place d) name))
      agreed

  fault_from : (body : List PlainDeclaration) (promise : PlainDeclaration) (name : Bytes)
      → promised promise ≡ Some name
      → promise_fault_of sight body promise ≡ None → Passes sight promise body
  fault_from body (constant at own t) name says h =
      kept_is own.name (constant at own t) (find (defines sight (constant at own t)) body) h
  fault_from body (opaque_type at own parameters universe) name says h =
      kept_is own.name (opaque_type at own parameters universe)
      (find (defines sight (opaque_type at own parameters universe)) body) h
  fault_from body (function at generics header) name says h =
      kept_is header.name.name (function at generics header)
      (find (defines sight (function at generics header)) body) h
  fault_from body (instance at generics own t) name says h =
      kept_is own.name (instance at generics own t) (find (defines sight (instance at generics own t)) body) h
  fault_from body other name says h = absurd (none-some name says)

  fault_to : (body : List PlainDeclaration) (promise : PlainDeclaration)
      → ((name : Bytes) → promised promise ≡ Some name → Passes sight promise body)
      → promise_fault_of sight body promise ≡ None
  fault_to body (constant at own t) h =
      let kept : Passes sight (constant at own t) body = h own.name refl in
      kept_to own.name (constant at own t) (find (defines sight (constant at own t)) body)
      kept.0 kept.1 kept.2
  fault_to body (opaque_type at own parameters universe) h =
      let kept : Passes sight (opaque_type at own parameters universe) body = h own.name refl in
      kept_to own.name (opaque_type at own parameters universe)
      (find (defines sight (opaque_type at own parameters universe)) body) kept.0 kept.1 kept.2
  fault_to body (function at generics header) h =
      let kept : Passes sight (function at generics header) body = h header.name.name refl in
      kept_to header.name.name (function at generics header)
      (find (defines sight (function at generics header)) body) kept.0 kept.1 kept.2
  fault_to body (instance at generics own t) h =
      let kept : Passes sight (instance at generics own t) body = h own.name refl in
      kept_to own.name (instance at generics own t) (find (defines sight (instance at generics own t)) body)
      kept.0 kept.1 kept.2
  fault_to body other h = refl

  -- ---- the promises of an interface

  unkept_from : (body promises : List PlainDeclaration) → unkept sight body promises ≡ None
      → (promise : PlainDeclaration) (name : Bytes) → Among promise promises
      → promised promise ≡ Some name → IsKept sight body promise
  unfolding unkept
  unkept_from body [] h promise name none says = absurd none
  unkept_from body (p ∷ ps) h promise name (inl here) says =
      subst (λ one. IsKept sight body one) here
      (kept_from sight p body (fault_from body p name (ap promised here ∙ says)
      (or_first (promise_fault_of sight body p) (unkept sight body ps) h)))
  unkept_from body (p ∷ ps) h promise name (inr later) says =
      unkept_from body ps (or_second (promise_fault_of sight body p) (unkept sight body ps) h)
      promise name later says

  unkept_to : (body promises : List PlainDeclaration)
      → ((promise : PlainDeclaration) (name : Bytes) → Among promise promises
      → promised promise ≡ Some name → IsKept sight body promise)
      → unkept sight body promises ≡ None
  unfolding unkept
  unkept_to body [] h = refl
  unkept_to body (p ∷ ps) h =
      or_neither (promise_fault_of sight body p) (unkept sight body ps)
      (fault_to body p (λ name says. kept_passes sight p body (h p name (inl refl) says)))
      (unkept_to body ps (λ promise name later says. h promise name (inr later) says))

  -- ---- the parts of a module

  parts_from : (i b : Option PlainModule) → parts_fault sight i b ≡ None
      → (interface body : PlainModule) → i ≡ Some interface → b ≡ Some body → Fulfils sight interface body
  parts_from i b h interface body first second promise name contained says =
      let both : parts_fault sight (Some interface) (Some body) ≡ None =
      sym (ap (λ o. parts_fault sight o b) first ∙ ap (parts_fault sight (Some interface)) second) ∙ h in
      unkept_from body.declarations interface.declarations both promise name
      (among interface.declarations promise contained) says

  parts_to : (i b : Option PlainModule) → ((interface body : PlainModule)
      → i ≡ Some interface → b ≡ Some body → Fulfils sight interface body)
      → parts_fault sight i b ≡ None
  parts_to None b h = refl
  parts_to (Some interface) None h = refl
  parts_to (Some interface) (Some body) h =
      unkept_to body.declarations interface.declarations
      (λ promise name one says. h interface body refl refl promise name
      (contains interface.declarations promise one) says)

-- ---- all

-- the file in which it is written
file_of : (o : Option Entry) (tree : PlainModule) → option_map (λ (e : Entry). e.tree) o ≡ Some tree
    → (e : Entry) × (o ≡ Some e) × (e.tree ≡ tree)
file_of None tree h = absurd (none-some tree h)
file_of (Some e) tree h = (e, refl, same_Some e.tree tree h)

module_from : (program : List ModuleParts) (place : ℕ) (m : ModuleParts) → module_fault program place m ≡ None
    → (interface body : Entry) → m.interface ≡ Some interface → m.body ≡ Some body
    → Fulfils (sight_of program place m) interface.tree body.tree
module_from program place m h interface body first second =
    parts_from (sight_of program place m) (interface_tree (Some m))
    (body_tree (Some m)) h interface.tree body.tree
    (ap (λ o. option_map (λ (e : Entry). e.tree) o) first)
    (ap (λ o. option_map (λ (e : Entry). e.tree) o) second)

module_to : (program : List ModuleParts) (place : ℕ) (m : ModuleParts)
    → ((interface body : Entry) → m.interface ≡ Some interface → m.body ≡ Some body
    → Fulfils (sight_of program place m) interface.tree body.tree)
    → module_fault program place m ≡ None
module_to program place m h =
    parts_to (sight_of program place m) (interface_tree (Some m)) (body_tree (Some m))
    (λ interface body first second.
    let i : (e : Entry) × (m.interface ≡ Some e) × (e.tree ≡ interface) =
    file_of m.interface interface first in
    let b : (e : Entry) × (m.body ≡ Some e) × (e.tree ≡ body) = file_of m.body body second in
    subst (λ t. Fulfils (sight_of program place m) t body) i.2
    (subst (λ t. Fulfils (sight_of program place m) i.0.tree t) b.2 (h i.0 b.0 i.1 b.1)))

pub fulfilled_from : (program : List ModuleParts) → promise_fault program ≡ None → AllFulfil program
fulfilled_from program h place m interface body here first second =
    let none : module_fault program place m ≡ None =
    nothing_at (module_fault program) (faults_from program) (faults_nil program) (faults_cons program)
    program h place m here in
    module_from program place m none interface body first second

pub fulfilled_accepted : (program : List ModuleParts) → AllFulfil program → promise_fault program ≡ None
fulfilled_accepted program h =
    nothing_all (module_fault program) (faults_from program) (faults_nil program) (faults_cons program)
    program
    (λ place m here. module_to program place m
    (λ interface body first second. h place m interface body here first second))
