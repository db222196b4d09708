-- The law of declarations, for those above; and what is found wrong with declarations is never want of
-- memory.
use Rattle.std.proofs.Common.{◌≡◌, Bool, true, false, List, [], ◌∷◌, Option, Some, None}
use Rattle.std.specs.Option.{option_map, option_or}
use Rattle.au_syntax.specs.Plain.{PlainDeclaration}
use Rattle.au_types.specs.declared.types.DeclAt.{DeclAt}
use Rattle.au_modules.specs.Programs.{ModuleParts}
use Rattle.au_names.specs.HeadsOf.{heads_of}
use Rattle.au_imports.specs.Choices.{first_of, where_so}
use Rattle.au_promises.specs.Promises.{declaration_place}
use Rattle.au_rules.specs.declared.doubles.Double.{Double}
use Rattle.au_rules.specs.Doubles.{first_double}
use Rattle.au_rules.proofs.RuleLemmas.{exact}
use Rattle.au_formed.specs.declared.faults.FormFault.{FormFault}
use Rattle.au_formed.specs.declared.faults.FormFault.TheVariants as form
use Rattle.au_formed.specs.Forms.{form_fault}
use Rattle.au_formed.specs.Infinite.{is_infinite}
use Rattle.au_formed.specs.Naming.{namings, type_of}
use Rattle.au_formed.specs.Text.{Spot, text, visible_at}
use Rattle.au_rules.specs.declared.faults.DeclFault.{DeclFault}
use Rattle.au_rules.specs.declared.faults.DeclFault.TheVariants as fault
use Rattle.au_rules.specs.DeclFaults.{decl_fault, declaration_fault, of_double, of_form, type_fault}
use Rattle.au_rules.specs.Good.{AllDeclarationsAreGood}
use Rattle.au_rules.proofs.RuleRuleLemmas.{all_good, none_refused}

pub good_from : (program : List ModuleParts) → decl_fault program ≡ None → AllDeclarationsAreGood program
good_from program h = all_good program (exact program) h

pub good_accepted : (program : List ModuleParts) → AllDeclarationsAreGood program → decl_fault program ≡ None
good_accepted program good = none_refused program (exact program) good

-- ---- never want of memory

infinite_unwanted : (b : Bool) (d : PlainDeclaration) → where_so b (fault.Infinite (declaration_place d))
    ≡ Some fault.Memory → ⊥
infinite_unwanted true d h = cc
infinite_unwanted false d h = cc

type_unwanted : (infinite : DeclAt → Bool) (d : PlainDeclaration) (o : Option DeclAt) →
    type_fault infinite d o ≡ Some fault.Memory → ⊥
type_unwanted infinite d None h = cc
type_unwanted infinite d (Some a) h = infinite_unwanted (infinite a) d h

of_one_unwanted : (d : Option Double) (f : Option FormFault) (t : Option DeclFault) → (t ≡ Some fault.Memory → ⊥)
    → option_or (option_map of_double d) (option_or (option_map of_form f) t) ≡ Some fault.Memory → ⊥
of_one_unwanted (Some d) f t last h = cc
of_one_unwanted None (Some (form.Malformed at)) t last h = cc
of_one_unwanted None (Some (form.EmptyUnion at)) t last h = cc
of_one_unwanted None (Some (form.UniverseBelow at)) t last h = cc
of_one_unwanted None None t last h = last h

spot_unwanted : (program : List ModuleParts) (s : Spot) → declaration_fault program s ≡ Some fault.Memory → ⊥
spot_unwanted program s h =
    of_one_unwanted (first_double program s.at) (form_fault (visible_at program s) (heads_of program) s.says)
    (type_fault (is_infinite (namings program)) s.says (type_of (visible_at program s) s.says))
    (type_unwanted (is_infinite (namings program)) s.says (type_of (visible_at program s) s.says)) h

first_unwanted : (f : Spot → Option DeclFault) (xs : List Spot) → ((s : Spot) → f s ≡ Some fault.Memory → ⊥)
    → first_of f xs ≡ Some fault.Memory → ⊥
unfolding first_of
first_unwanted f [] never h = cc
first_unwanted f (s ∷ xs) never h = by (f s) (never s) (first_unwanted f xs never) h
  where
    by : (o : Option DeclFault) → (o ≡ Some fault.Memory → ⊥) → (first_of f xs ≡ Some fault.Memory → ⊥)
        → option_or o (first_of f xs) ≡ Some fault.Memory → ⊥
    by None one others all = others all
    by (Some x) one others all = one all

pub unwanted : (program : List ModuleParts) → decl_fault program ≡ Some fault.Memory → ⊥
unwanted program h = first_unwanted (declaration_fault program) (text program) (spot_unwanted program) h
