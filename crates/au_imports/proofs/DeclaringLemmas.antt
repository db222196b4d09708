-- The first of what a function gives for the items of a list, and what declarations are refused for by
-- the tables of a part as by the definitions.
use Rattle.std.proofs.Common.{
  ◌≡◌,
  ℕ,
  ◌+◌,
  ◌<◌,
  ◌≤◌,
  ◌==◌,
  not,
  ◌&&◌,
  ◌||◌,
  List,
  [],
  ◌∷◌,
  length,
  map,
  drop,
  get_or,
  Option,
  None,
  Some,
  is_some,
  refl,
  sym,
  ap,
  ◌∙◌,
  arith,
}
use Rattle.std.specs.Prelude.{slice_get}
use Rattle.std.specs.Option.{option_map, option_or}
use Rattle.std.proofs.lemmas.List.{drop_more, drop_all}
use Rattle.au_syntax.specs.declared.modules.Part.{Part}
use Rattle.au_syntax.specs.declared.modules.Part.TheVariants.{Interface, Body}
use Rattle.au_syntax.specs.Plain.{Bytes, PlainDeclaration}
use Rattle.au_types.specs.declared.name_tables.NameTables.{NameTables}
use Rattle.au_types.specs.declared.spaces.Space.{Space}
use Rattle.au_types.specs.declared.spaces.Space.TheVariants.{Values, Callables, Types}
use Rattle.au_types.specs.DeclaredNames.{names_in}
use Rattle.au_types.specs.Tables.{has_name}
use Rattle.au_types.proofs.TableLemmas.{find-firsts}
use Rattle.au_types.specs.declared.parameters.Parameter.{Parameter}
use Rattle.au_modules.specs.Programs.{ModuleParts}
use Rattle.au_names.specs.HeadsOf.{heads_of}
use Rattle.au_names.specs.Exporting.{in_space, offers}
use Rattle.au_names.specs.Meanings.{declared_by, seen}
use Rattle.au_names.specs.Owned.{interface_of}
use Rattle.au_types.specs.Senses.{sense_of}
use Rattle.au_promises.specs.declared.mentions.Mention.{Mention}
use Rattle.au_promises.specs.declared.mentions.Mention.TheVariants.{Declares, Writes}
use Rattle.au_promises.specs.Mentions.{mentions, type_parameters}
use Rattle.au_imports.specs.declared.brought.Brought.{Brought}
use Rattle.au_imports.specs.declared.declaring.Site.{Site}
use Rattle.au_imports.specs.declared.name_faults.NameFault.TheVariants.{NotVisible, NameTwice}
use Rattle.au_imports.specs.Choices.{first_of, where_so}
use Rattle.au_imports.specs.Clashing.{
  brought_to,
  declaration_clashes,
  is_built_in,
  is_brought_before,
  is_pervasive,
}
use Rattle.au_imports.specs.Declaring.{
  clashes_at,
  declaration_fault_at,
  is_brought_by,
  means_nothing_at,
  mention_fault_at,
}
use Rattle.au_imports.specs.Gathered.{AreBrought, brought_in}
use Rattle.au_imports.specs.NameFaults.{declaration_fault, means_nothing, mention_fault}
use Rattle.au_imports.proofs.BroughtLemmas.{table_of}

-- ---- the first

module _ {A B : Type 0} where
  pub first_none : (f : A → Option B) → first_of f [] ≡ None
  unfolding first_of
  first_none f = refl

  pub first_more : (f : A → Option B) (x : A) (xs : List A)
      → first_of f (x ∷ xs) ≡ option_or (f x) (first_of f xs)
  unfolding first_of
  first_more f x xs = refl

  -- equal for each item
  pub first_same : (f g : A → Option B) → ((x : A) → f x ≡ g x) → (xs : List A)
      → first_of f xs ≡ first_of g xs
  unfolding first_of
  first_same f g same [] = refl
  first_same f g same (x ∷ xs) = ap (λ r. option_or r (first_of f xs)) (same x)
      ∙ ap (option_or (g x)) (first_same f g same xs)

  -- a walk to the first: what the items that are left give is what all give
  module _ (all : List A → Option B) (one : A → Option B) (more : (x : A) (xs : List A)
      → all (x ∷ xs) ≡ option_or (one x) (all xs)) where
    pub left_step : (xs : List A) (i : ℕ) (x : A) → i < length xs → x ≡ get_or xs i x
        → all (drop i xs) ≡ option_or (one x) (all (drop (i + 1) xs))
    left_step xs i x within is =
        ap all (drop_more xs i x within ∙ ap (λ y. y ∷ drop (i + 1) xs) (sym is)) ∙ more x (drop (i + 1) xs)

    pub found_here : (xs : List A) (i : ℕ) (x : A) (found : Option B) (y : B) (goal : Option B)
        → i < length xs → x ≡ get_or xs i x
        → all (drop i xs) ≡ goal → found ≡ one x → found ≡ Some y → Some y ≡ goal
    found_here xs i x found y goal within is left gives found_is =
        ap (λ r. option_or r (all (drop (i + 1) xs))) (sym found_is ∙ gives)
        ∙ sym (left_step xs i x within is) ∙ left

    pub not_here : (xs : List A) (i : ℕ) (x : A) (found : Option B) (goal : Option B)
        → i < length xs → x ≡ get_or xs i x
        → all (drop i xs) ≡ goal → found ≡ one x → found ≡ None → all (drop (i + 1) xs) ≡ goal
    not_here xs i x found goal within is left gives found_is =
        ap (λ r. option_or r (all (drop (i + 1) xs))) (sym found_is ∙ gives)
        ∙ sym (left_step xs i x within is) ∙ left

  pub nowhere : (all : List A → Option B) → all [] ≡ None → (xs : List A) (i : ℕ) (goal : Option B)
      → length xs ≤ i → all (drop i xs) ≡ goal → None ≡ goal
  nowhere all none xs i goal past left = sym none ∙ sym (ap all (drop_all i xs past)) ∙ left

-- ---- what stands at a part

-- what is pervasive, by the table of the first module
offers_same : (m : ModuleParts) (names : NameTables) (space : Space) (name : Bytes)
    → offers m ≡ names → has_name name (in_space space names) ≡ is_pervasive space (Some m) name
offers_same m names Values name same = ap (λ t. has_name name t.values) (sym same)
    ∙ ap is_some (find-firsts name (names_in Values (interface_of m)))
offers_same m names Callables name same = ap (λ t. has_name name t.callables) (sym same)
    ∙ ap is_some (find-firsts name (names_in Callables (interface_of m)))
offers_same m names Types name same = ap (λ t. has_name name t.types) (sym same)
    ∙ ap is_some (find-firsts name (names_in Types (interface_of m)))

pervasive_same : (m : Option ModuleParts) (names : NameTables) (space : Space) (name : Bytes)
    → option_map offers m ≡ Some names → has_name name (in_space space names) ≡ is_pervasive space m name
pervasive_same None names space name same = absurd (cc)
pervasive_same (Some m) names space name same = let e : offers m ≡ names =
    cc in offers_same m names space name e

-- the table of the first module is the first of all
pub first_offers : (program : List ModuleParts) (all : List NameTables) (names : NameTables) (place : ℕ)
    → all ≡ map offers program → place < length program → names ≡ get_or all 0 names
    → option_map offers (slice_get program 0) ≡ Some names
first_offers [] all names place made within is = absurd (omega arith)
first_offers (m ∷ ms) all names place made within is = ap Some (sym (is ∙ ap (λ r. get_or r 0 names) made))

-- what imports bring, by their tables
brought_same : (program : List ModuleParts) (place : ℕ) (m : ModuleParts) (part : Part) (brought : Brought)
    → AreBrought program place m part brought → (space : Space) (name : Bytes) →
    has_name name (brought_in space brought) ≡ has_name name (brought_to program place m part space)
brought_same program place m part brought made space name =
    ap (has_name name) (table_of program place m part brought made space)
    ∙ ap is_some (find-firsts name (brought_to program place m part space))

before_same : (program : List ModuleParts) (place : ℕ) (m : ModuleParts) (interface body : Brought)
    → AreBrought program place m Interface interface → AreBrought program place m Body body
    → (part : Part) (space : Space) (name : Bytes) →
    is_brought_by part space interface body name ≡ is_brought_before program place m part space name
before_same program place m interface body by_interface by_body Interface space name =
    brought_same program place m Interface interface by_interface space name
before_same program place m interface body by_interface by_body Body space name =
    ap (λ b. b || has_name name (brought_in space body))
    (brought_same program place m Interface interface by_interface space name)
    ∙ ap (λ b. has_name name (brought_to program place m Interface space) || b)
    (brought_same program place m Body body by_body space name)

-- These are the tables of a part of the module at a place.
pub record IsSite (program : List ModuleParts) (place : ℕ) (m : ModuleParts)
    (part : Part) (site : Site) : Type 0 where
  pub the_part : site.part ≡ part
  pub is_first : site.first ≡ (place == 0)
  pub pervasive : option_map offers (slice_get program 0) ≡ Some site.pervasive.now
  pub interface : AreBrought program place m Interface site.interface.now
  pub body : AreBrought program place m Body site.body.now
  pub names : site.names.now ≡ declared_by (seen Types program place m part)
  pub heads : site.heads.now ≡ heads_of program

module _ (program : List ModuleParts) (place : ℕ) (m : ModuleParts) (part : Part)
    (site : Site) (made : IsSite program place m part site) where
  clashes_same : (space : Space) (name : Bytes) → clashes_at site space name
      ≡ declaration_clashes program place m part space name
  clashes_same space name =
      let pervasive = has_name name (in_space space site.pervasive.now) in
      let brought = is_brought_by site.part space site.interface.now site.body.now name in
      ap (λ b. (is_built_in space name || (not b && pervasive)) || brought) made.is_first
      ∙ ap (λ b. (is_built_in space name || (not (place == 0) && b)) || brought)
      (pervasive_same (slice_get program 0) site.pervasive.now space name made.pervasive)
      ∙ ap (λ b. (is_built_in space name
      || (not (place == 0) && is_pervasive space (slice_get program 0) name)) || b)
      (ap (λ p. is_brought_by p space site.interface.now site.body.now name) made.the_part
      ∙ before_same program place m site.interface.now site.body.now made.interface made.body part space name)

  nothing_same : (parameters : List Parameter) (name : Bytes)
      → means_nothing_at site parameters name ≡ means_nothing program place m part parameters name
  nothing_same parameters name =
      ap (λ names. not (is_some (sense_of [] parameters names site.heads.now name))) made.names
      ∙ ap (λ heads. not
      (is_some (sense_of [] parameters (declared_by (seen Types program place m part)) heads name)))
      made.heads

  mention_same : (parameters : List Parameter) (mention : Mention)
      → mention_fault_at site parameters mention ≡ mention_fault program place m part parameters mention
  mention_same parameters (Declares space name at) = ap (λ so. where_so so (NameTwice at name))
      (clashes_same space name)
  mention_same parameters (Writes name at) = ap (λ so. where_so so (NotVisible at name))
      (nothing_same parameters name)

  declaration_same : (d : PlainDeclaration) → declaration_fault_at site d
      ≡ declaration_fault program place m part d
  declaration_same d =
      first_same (mention_fault_at site (type_parameters d))
      (mention_fault program place m part (type_parameters d)) (mention_same (type_parameters d))
      (mentions d)

  -- what declarations are refused for
  pub faults_same : (ds : List PlainDeclaration) → first_of (declaration_fault_at site) ds
      ≡ first_of (declaration_fault program place m part) ds
  faults_same ds = first_same (declaration_fault_at site) (declaration_fault program place m part)
      declaration_same ds
