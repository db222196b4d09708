-- The first of promises, and of modules, in which something is refused.
use Rattle.std.proofs.Common.{
  ◌≡◌,
  ℕ,
  ◌+◌,
  ◌<◌,
  ◌≤◌,
  ◌⊎◌,
  inl,
  inr,
  suc,
  List,
  [],
  ◌∷◌,
  length,
  map,
  drop,
  get_or,
  Option,
  None,
  Some,
  refl,
  sym,
  ap,
  ◌∙◌,
  add-one,
  drop-cons,
  arith,
}
use Rattle.std.specs.Prelude.{slice_get}
use Rattle.std.specs.Option.{option_or}
use Rattle.std.proofs.lemmas.List.{drop_all}
use Rattle.std.proofs.lemmas.Option.{slice_get_within, get_or_from_slice_get, slice_get_cases}
use Rattle.au_base.proofs.ListLemmas.{seen_left}
use Rattle.au_syntax.specs.Plain.{PlainDeclaration}
use Rattle.au_modules.specs.Programs.{ModuleParts}
use Rattle.au_promises.specs.declared.faults.PromiseFault.{PromiseFault}
use Rattle.au_promises.specs.Agreeing.{Sight}
use Rattle.au_promises.specs.Promises.{promise_fault_of, unkept, module_fault, faults_from}

module _ (sight : Sight) (body : List PlainDeclaration) where
  unkept_cons : (d : PlainDeclaration) (ds : List PlainDeclaration)
      → unkept sight body (d ∷ ds) ≡ option_or (promise_fault_of sight body d) (unkept sight body ds)
  unfolding unkept
  unkept_cons d ds = refl

  unkept_nil : unkept sight body [] ≡ None
  unfolding unkept
  unkept_nil = refl

  -- the next promise, and those that are left
  pub unkept_next : {A B : Type 0} (p : B → PlainDeclaration) (v : A → B) (xs : List A) (i : ℕ) (x : A)
      → i < length xs → x ≡ get_or xs i x
      → unkept sight body (map p (map v (drop i xs))) ≡ option_or (promise_fault_of sight body (p (v x)))
      (unkept sight body (map p (map v (drop (i + 1) xs))))
  unkept_next p v xs i x h here = ap (unkept sight body) (seen_left p v xs i x h here)
      ∙ unkept_cons (p (v x)) (map p (map v (drop (i + 1) xs)))

  -- no promise is left
  pub unkept_end : {A B : Type 0} (p : B → PlainDeclaration) (v : A → B) (xs : List A) (i : ℕ)
      → length xs ≤ i → unkept sight body (map p (map v (drop i xs))) ≡ None
  unkept_end p v xs i past = ap (λ r. unkept sight body (map p (map v r))) (drop_all i xs past) ∙ unkept_nil

module _ (program : List ModuleParts) where
  pub faults_cons : (place : ℕ) (m : ModuleParts) (ms : List ModuleParts)
      → faults_from program place (m ∷ ms) ≡ option_or (module_fault program place m)
      (faults_from program (place + 1) ms)
  unfolding faults_from
  faults_cons place m ms = refl

  pub faults_nil : (place : ℕ) → faults_from program place [] ≡ None
  unfolding faults_from
  faults_nil place = refl

  faults_at : (place : ℕ) (m : ModuleParts) → slice_get program place ≡ Some m
      → faults_from program place (drop place program) ≡ option_or (module_fault program place m)
      (faults_from program (place + 1) (drop (place + 1) program))
  faults_at place m here =
      ap (faults_from program place)
      (drop-cons program place m (slice_get_within program place m here)
      ∙ ap (λ x. x ∷ drop (suc place) program) (get_or_from_slice_get program place m m here)
      ∙ ap (λ n. m ∷ drop n program) (sym (add-one place)))
      ∙ faults_cons place m (drop (place + 1) program)

  -- the next module, and those that are left
  pub faults_next : (place : ℕ) (fault : Option PromiseFault) → place < length program
      → ((m : ModuleParts) → slice_get program place ≡ Some m → fault ≡ module_fault program place m)
      → faults_from program place (drop place program) ≡ option_or fault
      (faults_from program (place + 1) (drop (place + 1) program))
  faults_next place fault within is = by (slice_get_cases program place).1
    where
      by : ((m : ModuleParts) × (place < length program) × (slice_get program place ≡ Some m)
          × (get_or program place m ≡ m)) ⊎ ((length program ≤ place) × (slice_get program place ≡ None))
          → faults_from program place (drop place program) ≡ option_or fault
          (faults_from program (place + 1) (drop (place + 1) program))
      by (inl found) =
          faults_at place found.0 found.2
          ∙ ap (λ o. option_or o (faults_from program (place + 1) (drop (place + 1) program)))
          (sym (is found.0 found.2))
      by (inr past) = absurd (omega (arith, past.0, within))

  -- no module is left
  pub faults_end : (place : ℕ) → length program ≤ place → faults_from program place (drop place program)
      ≡ None
  faults_end place past = ap (faults_from program place) (drop_all place program past) ∙ faults_nil place
