-- The laws of the reader of a file: what is read is spelled so, has its form and is within the limits, and
-- what is spelled so and has its form is read, or a limit that it passes is told.
use Rattle.std.proofs.Common.{◌≡◌, ℕ, ◌≤◌, ◌<◌, Bool, true, false, ◌&&◌, List, [], ◌∷◌, ◌++◌, length, map, Ok}
use Rattle.std.proofs.Common.{Err, refl, sym, ap, ◌∙◌, subst, inl, inr, ◌⊎◌}
use Rattle.std.specs.List.{flat_map, list_all}
use Rattle.au_base.specs.declared.limits.Limit.{Limit}
use Rattle.au_base.specs.declared.tokens.Token.{Token}
use Rattle.au_syntax.specs.Modules.{Importing}
use Rattle.au_syntax.specs.Names.{Placed}
use Rattle.au_syntax.specs.Plain.{Bytes, PlainModule}
use Rattle.au_syntax.specs.Depths.{module_depth}
use Rattle.au_syntax.specs.Sizes.{declaration_types, joined}
use Rattle.au_syntax.specs.Forms.{some, formed_declaration, formed_import, formed_module}
use Rattle.au_syntax.specs.Words as words
use Rattle.au_syntax.specs.Words.{AreWords}
use Rattle.au_read_expressions.specs.declared.faults.Fault.TheVariants.{Passed}
use Rattle.au_read_expressions.specs.Bounds.{Bounds, SomeNamePasses, ModulePasses, module_names, bytes_limit}
use Rattle.au_read_expressions.specs.Reading.{◌>>=◌, front, pair}
use Rattle.au_read_expressions.specs.Spelling.{Begins}
use Rattle.au_read_expressions.proofs.Steps.{ok_same, not_read, bind_ok}
use Rattle.au_read_expressions.proofs.Begins.{begins_all, all_begins}
use Rattle.au_read_expressions.proofs.Forms.{Form, Reads, anything, pair_form, pair_reads, Shapes, shaped_reads}
use Rattle.au_read_expressions.proofs.ListForms.{AllFit, OnePasses, repeated_form}
use Rattle.au_read_expressions.proofs.Limits.{TreeFits}
use Rattle.au_parser.specs.ModuleReading.{imports_at, ModuleParts, module_of, parts_at, module_at, ending}
use Rattle.au_parser.specs.ModuleReading.{ended, file_at}
use Rattle.au_parser.proofs.Lower.{Lower}
use Rattle.au_parser.proofs.ModuleForm.{import_form, ends_imports, imports_reads, parts_words, parts_form}
use Rattle.au_parser.proofs.ModuleForm.{parts_front, parts_reads}

-- modules' names are within the limit of their bytes
abbrev pub NamesFit : Bounds → List (List (Placed Bytes)) → Type 0
NamesFit b [] = Unit {0}
NamesFit b (name ∷ names) = (length (joined name) ≤ b.bytes) × NamesFit b names

-- a file is within the limits
abbrev pub ModuleFits : Bounds → PlainModule → Type 0
ModuleFits b m = TreeFits b b.nesting (module_depth m) (flat_map declaration_types m.declarations)
    × NamesFit b (module_names m)

abbrev pub module_form : Bounds → Form PlainModule
module_form b = record { words = words.words; good = formed_module; Fits = ModuleFits b; Passes = ModulePasses b }

-- one of three tests before the two others
three_tests : (a c d : Bool) → (a && c && d) ≡ (c && (a && d))
three_tests true c d = refl
three_tests false true d = refl
three_tests false false d = refl

abbrev Parts : Type 0
Parts = List (Importing Bytes) × ModuleParts

abbrev parts_again : PlainModule → Parts
parts_again m = (
  m.imports,
  record
      { at = m.at; part = m.part; name = m.name; pragma = m.pragma; declarations = m.declarations },
)

module _ (b : Bounds) where
  names_fit : (all : List (Importing Bytes)) (name : List (Placed Bytes)) → AllFit (import_form b) all →
      length (joined name) ≤ b.bytes
      → NamesFit b (map (λ (one : Importing Bytes). one.from) all ++ name ∷ [])
  names_fit [] name h k = (k, tt)
  names_fit (i ∷ is) name h k = (h.0, names_fit is name h.1 k)

  import_passes : (all : List (Importing Bytes)) (name : List (Placed Bytes)) (l : Limit) →
      OnePasses (import_form b) all l →
      SomeNamePasses b (map (λ (one : Importing Bytes). one.from) all ++ name ∷ []) l
  import_passes [] name l p = absurd p
  import_passes (i ∷ is) name l p = elim p [ inl q ↦ inl q | inr q ↦ inr (import_passes is name l q) ]

  name_passes : (all : List (Importing Bytes)) (name : List (Placed Bytes)) (l : Limit) →
      (b.bytes < length (joined name)) × (l ≡ bytes_limit b) →
      SomeNamePasses b (map (λ (one : Importing Bytes). one.from) all ++ name ∷ []) l
  name_passes [] name l p = inl p
  name_passes (i ∷ is) name l p = inr (name_passes is name l p)

  abbrev imports_form : Form (List (Importing Bytes))
  imports_form = repeated_form (import_form b)

  abbrev both_form : Form Parts
  both_form = pair_form imports_form (parts_form b)

  imports_stop : (p : ModuleParts) (ts rest : List Token) → Begins (parts_words p) ts rest →
      (some p.name && list_all (formed_declaration p.part) p.declarations) ≡ true → true ≡ true →
      ends_imports b (front ts) ≡ true
  imports_stop p ts rest h good follows = ap (ends_imports b) (parts_front p ts rest h)

  passes_file : (x : Parts) (l : Limit) → both_form.Passes x l → ModulePasses b (module_of x) l
  passes_file x l p =
      elim p [
        | inl q ↦ inr (import_passes x.0 x.1.name l q)
        | inr q ↦ elim q [ inl r ↦ inl r | inr r ↦ inr (name_passes x.0 x.1.name l r) ]
      ]

  module _ (low : Lower b) where
    both_reads : Reads both_form anything (pair (imports_at b) (parts_at b))
    both_reads = pair_reads imports_form (parts_form b) (ends_imports b) anything (imports_at b)
        (imports_reads b) (parts_at b) (parts_reads b low) imports_stop

    file_shapes : Shapes both_form (module_form b) anything (pair (imports_at b) (parts_at b)) both_reads module_of
    file_shapes = record {
      words = λ x. refl;
      good_to = λ x g. three_tests (some x.1.name) (list_all formed_import x.0)
          (list_all (formed_declaration x.1.part) x.1.declarations) ∙ g;
      good_from = λ x g. sym (three_tests (some x.1.name) (list_all formed_import x.0)
          (list_all (formed_declaration x.1.part) x.1.declarations)) ∙ g;
      fits = λ x h. (h.1.0, names_fit x.0 x.1.name h.0 h.1.1);
      passes = passes_file;
    }

    pub module_reads : Reads (module_form b) anything (module_at b)
    unfolding module_at
    module_reads = shaped_reads both_form (module_form b) anything (pair (imports_at b) (parts_at b))
        both_reads module_of file_shapes parts_again (λ m. refl)

    -- ---- a file: a module, and nothing behind it

    ending_is : (x : PlainModule) (behind : List Token) (m : PlainModule) (rest : List Token) →
        ending b x behind ≡ Ok (m, rest) → (behind ≡ []) × (x ≡ m) × (rest ≡ [])
    ending_is x [] m rest e =
        let same : (x, []) ≡ (m, rest) = ok_same (x, []) (m, rest) e in
        (refl, ap (λ (y : PlainModule × List Token). y.0) same, sym (ap (λ (y : PlainModule × List Token). y.1) same))
    ending_is x (t ∷ ts) m rest e = absurd (not_read _ (m, rest) e)

    pub file_sound : (ts rest : List Token) (m : PlainModule) → file_at b ts ≡ Ok (m, rest) → (rest ≡ [])
        × AreWords (words.words m) ts × (formed_module m ≡ true) × ModuleFits b m
    unfolding file_at
    file_sound ts rest m e =
        let o = bind_ok (module_at b ts) (ended b) (m, rest) e in
        let s = module_reads.sound ts o.0.1 o.0.0 o.1 in
        let is = ending_is o.0.0 o.0.1 m rest o.2 in
        let here : AreWords (words.words o.0.0) ts =
        all_begins (words.words o.0.0) ts (subst (λ r. Begins (words.words o.0.0) ts r) is.0 s.spelled) in (
          is.2,
          subst (λ y. AreWords (words.words y) ts) is.1 here,
          subst (λ y. formed_module y ≡ true) is.1
              s.good,
          subst (ModuleFits b) is.1 s.fits,
        )

    pub file_found : (ts : List Token) (m : PlainModule) → AreWords (words.words m) ts → formed_module m ≡ true
        → (file_at b ts ≡ Ok (m, [])) ⊎ ((l : Limit) × (left : ℕ) × (file_at b ts ≡ Err (Passed l left))
        × ModulePasses b m l)
    unfolding file_at
    file_found ts m h good =
        elim (module_reads.found m ts [] (begins_all (words.words m) ts h) good refl) [
          | inl on ↦ inl (ap (λ r. r >>= ended b) on)
          | inr p ↦ inr (p.0, p.1, ap (λ r. r >>= ended b) p.2, p.3)
        ]
