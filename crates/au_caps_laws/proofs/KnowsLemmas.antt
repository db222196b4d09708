-- What is known of the calls and the rows of a checked program.
use Rattle.std.proofs.Common.{◌≡◌, ◌||◌, Bool, true, false, true≢false, Some, refl, sym, subst}
use Rattle.std.specs.Prelude.{Contains, List, codes}
use Rattle.std.specs.Str.{bytes_eq}
use Rattle.std.proofs.lemmas.Slice.Eq.{bytes_eq-Decides}
use Rattle.au_syntax.specs.declared.modules.Part.TheVariants.{Body}
use Rattle.au_syntax.specs.Plain.{Bytes}
use Rattle.au_syntax.specs.Sizes.{joined}
use Rattle.au_types.specs.declared.spaces.Space.TheVariants.{Callables}
use Rattle.au_types.specs.declared.types.DeclAt.{DeclAt}
use Rattle.au_types.specs.Tables as tables
use Rattle.au_type_texts.specs.Types.{ClosedType}
use Rattle.au_modules.specs.Programs.{Entry, ModuleParts}
use Rattle.au_names.specs.declared.targets.Target.{Target}
use Rattle.au_names.specs.HeadsOf.{heads_of}
use Rattle.au_names.specs.Standing.{Standing, standing_at}
use Rattle.au_names.proofs.AmongLemmas.{Among}
use Rattle.au_instances.specs.ClosedInstances.{closed_row}
use Rattle.au_instances.specs.Rows.{Row}
use Rattle.au_classes.specs.Rows.{rows_of}
use Rattle.au_typing.specs.Trees.{NotedParts}
use Rattle.au_typing.specs.Written.{seen_at}
use Rattle.au_closing_laws.specs.Targets.{Call, calls_listed}
use Rattle.au_judged_programs.specs.CheckedChecked.{IsChecked}
use Rattle.au_judged_programs.proofs.BirthLemmas.{IsOfShipped, own_named}
use Rattle.au_judged_programs.proofs.ShippedMethodFoundLemmas.{IsFound, is_found}
use Rattle.au_caps_lists.specs.Bodies.{Bodied}
use Rattle.au_caps_laws.specs.Births.{run_as}
use Rattle.au_caps_laws.proofs.BoundLemmas.{Knows, KnowsAll, KnowsRow}
use Rattle.au_caps_laws.proofs.DefinedLemmas.{function_stands}
use Rattle.au_caps_laws.proofs.InstanceLemmas.{row_constructor, run_class, run_constructor, run_named}
use Rattle.au_caps_laws.proofs.NamedLemmas.{named_by_maker}
use Rattle.au_caps_laws.proofs.PrimLemmas.{no_birth, of_births}
use Rattle.au_caps_laws.proofs.RunForLemmas.{IsRunAt}
use Rattle.au_caps_laws.proofs.SignedLemmas.{named_by_birth}
use Rattle.au_caps_laws.proofs.TargetLemmas.{function_named}

-- the modules of births are shipped
births_shipped : (home : Bytes) → of_births home ≡ true → IsOfShipped home
births_shipped home e =
    by (bytes_eq home (codes "Standard.Box")) (bytes_eq home (codes "Standard.Buffer"))
    (bytes_eq home (codes "Standard.IO.Terminal")) refl refl refl e
  where
    at : (other : Bytes) → bytes_eq home other ≡ true → IsOfShipped other → IsOfShipped home
    at other is there = subst IsOfShipped (sym ((bytes_eq-Decides home other).0 is)) there

    by : (a b c : Bool) → bytes_eq home (codes "Standard.Box") ≡ a → bytes_eq home (codes "Standard.Buffer") ≡ b
        → bytes_eq home (codes "Standard.IO.Terminal") ≡ c → (a || (b || c)) ≡ true → IsOfShipped home
    by true b c is its last e = at (codes "Standard.Box") is refl
    by false true c is its last e = at (codes "Standard.Buffer") its refl
    by false false true is its last e = at (codes "Standard.IO.Terminal") last refl
    by false false false is its last e = absurd (true≢false (sym e))

module _ (program : List ModuleParts) (noted : List NotedParts) (checked : IsChecked program noted) where
  own_apart : (e : Entry) → Among e checked.gathered.own → of_births (joined e.tree.name) ≡ true → ⊥
  own_apart e among is = own_named program noted checked e among (births_shipped (joined e.tree.name) is)

  knows_call : (one : Target) (b : Bodied) → IsRunAt program noted one b → (call : Call)
      → Contains (calls_listed b.block) call → (target : Target)
      → tables.find call.1 (seen_at Callables program b.place Body) ≡ Some target
      → (d : Standing) → standing_at program target.at ≡ Some d → Knows program noted b call target d
  knows_call one b run call listed target means d found = record {
    maker = λ name is.
        named_by_maker program noted checked.derives one (run_as b) run.run.runs call listed target means d found
        name is;
    birth = λ name names its of t leads is bears.
        named_by_birth program noted checked one (run_as b) run.run.runs call listed target means d found name names its
        of t leads is bears;
    functions = λ c is at.
        function_stands program noted checked.derives.erased target d found
        (function_named program b.place Body call.1 target means d found is) is c at;
  }

  knows_row : (at : DeclAt) (t : ClosedType) (row : Row)
      → closed_row (rows_of program) (heads_of program) t at ≡ Some row → KnowsRow program noted at t row
  knows_row at t row e = record {
    methods = λ name its of u is bears.
        no_birth program checked.gathered own_apart at t row f name its of u is bears;
    class = λ name c run. (
      run_class program noted checked.derives.erased checked.declared checked.kept at t row f name c run,
      run_named program noted checked.derives.erased checked.declared checked.kept at t row f name c run,
    );
    constructor = λ name c run one is.
        run_constructor program noted checked.derives.erased checked.declared checked.kept at t row f name c run one
        (row_constructor program at t row e one is);
  }
    where
      f : IsFound program at t row
      f = is_found program t at row e

  pub knows_all : KnowsAll program noted
  knows_all = record { calls = knows_call; rows = knows_row }
