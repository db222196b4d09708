-- Declarations are refused for nothing exactly where all are good.
use Rattle.std.proofs.Common.{◌≡◌, Bool, true, false, List, Option, None, Some, refl, sym, ap, ◌∙◌, Contains}
use Rattle.std.proofs.Common.{true≢false}
use Rattle.std.specs.Prelude.{◌↔◌}
use Rattle.std.specs.Option.{option_map, option_or}
use Rattle.std.proofs.lemmas.Option.{none-some}
use Rattle.au_base.proofs.OptionLemmas.{or_first, or_second, or_neither, map_none, none_map}
use Rattle.au_syntax.specs.Plain.{PlainDeclaration}
use Rattle.au_types.specs.declared.types.DeclAt.{DeclAt}
use Rattle.au_modules.specs.Programs.{ModuleParts}
use Rattle.au_names.specs.HeadsOf.{heads_of}
use Rattle.au_rules.specs.declared.doubles.Double.{Double}
use Rattle.au_rules.specs.Doubles.{first_double}
use Rattle.au_rules.specs.Once.{AllNamesAreOnce}
use Rattle.au_names.proofs.AmongLemmas.{among, contains}
use Rattle.au_imports.proofs.ChoiceLemmas.{first_from, first_to, so_from, so_to}
use Rattle.au_promises.specs.Promises.{declaration_place}
use Rattle.au_formed.specs.Forms.{form_fault}
use Rattle.au_formed.specs.Infinite.{IsInfinite, is_infinite}
use Rattle.au_formed.specs.Naming.{namings, type_of}
use Rattle.au_formed.specs.Text.{Spot, text, visible_at}
use Rattle.au_formed.proofs.LeadLemmas.{infinite_from, infinite_to}
use Rattle.au_formed.proofs.WellMadeLemmas.{well_made_from, well_made_to}
use Rattle.au_rules.specs.declared.faults.DeclFault.{DeclFault}
use Rattle.au_rules.specs.declared.faults.DeclFault.TheVariants as fault
use Rattle.au_rules.specs.DeclFaults.{decl_fault, declaration_fault, of_double, of_form, type_fault}
use Rattle.au_rules.specs.Good.{AllDeclarationsAreGood, DeclarationIsGood}
use Rattle.au_rules.proofs.DoubleLemmas.{double_stands}

module _ (program : List ModuleParts) where
  abbrev the_type : Spot → Option DeclAt
  the_type s = type_of (visible_at program s) s.says

  abbrev infinite : DeclAt → Bool
  infinite a = is_infinite (namings program) a

  -- ---- types

  finite_from : (d : PlainDeclaration) (t : Option DeclAt) → type_fault infinite d t ≡ None → (a : DeclAt)
      → t ≡ Some a → ¬ IsInfinite (namings program) a
  finite_from d None h a is = absurd (none-some a is)
  finite_from d (Some b) h a is = λ leads.
      let passes : infinite b ≡ true = ap (λ o. by o) is ∙ infinite_to (namings program) a leads in
      true≢false (sym passes ∙ so_from (infinite b) (fault.Infinite (declaration_place d)) h)
    where
      by : Option DeclAt → Bool
      by None = false
      by (Some x) = infinite x

  finite_to : (d : PlainDeclaration) (t : Option DeclAt)
      → ((a : DeclAt) → t ≡ Some a → ¬ IsInfinite (namings program) a) → type_fault infinite d t ≡ None
  finite_to d None h = refl
  finite_to d (Some a) h = so_to (infinite a) (fault.Infinite (declaration_place d)) (by (infinite a) refl)
    where
      by : (b : Bool) → infinite a ≡ b → b ≡ false
      by true e = absurd (h a refl (infinite_from (namings program) a e))
      by false e = refl

  -- ---- one declaration

  abbrev double : Spot → Option DeclFault
  double s = option_map of_double (first_double program s.at)

  abbrev form : Spot → Option DeclFault
  form s = option_map of_form (form_fault (visible_at program s) (heads_of program) s.says)

  abbrev last : Spot → Option DeclFault
  last s = type_fault infinite s.says (the_type s)

  good_spot : (s : Spot) → declaration_fault program s ≡ None → DeclarationIsGood program s
  good_spot s h =
      let later = or_second (double s) (option_or (form s) (last s)) h in
      record {
        made = well_made_from (visible_at program s) (heads_of program) s.says
            (map_none of_form (form_fault (visible_at program s) (heads_of program) s.says)
            (or_first (form s) (last s) later));
        finite = finite_from s.says (the_type s) (or_second (form s) (last s) later);
      }

  spot_good : (s : Spot) → first_double program s.at ≡ None → DeclarationIsGood program s
      → declaration_fault program s ≡ None
  spot_good s once good =
      or_neither (double s) (option_or (form s) (last s))
      (none_map of_double (first_double program s.at) once)
      (or_neither (form s) (last s)
      (none_map of_form (form_fault (visible_at program s) (heads_of program) s.says)
      (well_made_to (visible_at program s) (heads_of program) s.says good.made))
      (finite_to s.says (the_type s) good.finite))

  -- ---- all

  no_double : decl_fault program ≡ None → (at : DeclAt) → first_double program at ≡ None
  no_double h at = by (first_double program at) refl
    where
      by : (o : Option Double) → first_double program at ≡ o → o ≡ None
      by None e = refl
      by (Some d) e =
          let there = double_stands program at d e in
          let none : declaration_fault program there.0
          ≡ None = first_from (declaration_fault program) (text program) h there.0 there.1 in
          let once : first_double program there.0.at
          ≡ None = map_none of_double (first_double program there.0.at)
          (or_first (double there.0) (option_or (form there.0) (last there.0)) none) in
          absurd (none-some d (sym once ∙ ap (first_double program) there.2 ∙ e))

  module _ (law : ((at : DeclAt) → first_double program at ≡ None) ↔ AllNamesAreOnce program) where
    pub all_good : decl_fault program ≡ None → AllDeclarationsAreGood program
    all_good h = record {
      once = law.0 (no_double h);
      each = λ s m. good_spot s
          (first_from (declaration_fault program) (text program) h s (among (text program) s m));
    }

    pub none_refused : AllDeclarationsAreGood program → decl_fault program ≡ None
    none_refused good =
        first_to (declaration_fault program) (text program)
        (λ s m. spot_good s (law.1 good.once s.at) (good.each s (contains (text program) s m)))
