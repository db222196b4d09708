-- Calls of functions.
use Rattle.std.proofs.Common.{◌≡◌, ℕ, Bool, List, [], ◌∷◌, map, Option, None, Some, refl, sym, ap, ◌∙◌, subst}
use Rattle.std.specs.Prelude.{unwrap_or}
use Rattle.std.specs.Option.{option_map}
use Rattle.au_shipped.specs.Calls.{prim_of}
use Rattle.au_syntax.specs.declared.modules.Part.TheVariants.{Body}
use Rattle.au_syntax.specs.Plain.{Bytes}
use Rattle.au_syntax.specs.Types.{Labelled}
use Rattle.au_types.specs.declared.parameters.Parameter.{Parameter}
use Rattle.au_types.specs.declared.spaces.Space.TheVariants.{Callables}
use Rattle.au_types.specs.Tables as tables
use Rattle.au_types.specs.Types.{Meaning}
use Rattle.au_matching.specs.Bindings.{Bindings}
use Rattle.au_matching.specs.Substituted.{Fixes, substituted}
use Rattle.au_judged_types.specs.Bounds.{parameters}
use Rattle.au_judged_types.specs.Meanings.{written_params}
use Rattle.au_type_texts.specs.Given.{Given, closed_under, given_by}
use Rattle.au_type_texts.specs.Types.{ClosedType}
use Rattle.au_running_types.specs.Running.{called as called_at, running}
use Rattle.au_running_types.proofs.NameLemmas.{callees_run, type_called}
use Rattle.au_written_types.specs.Written.{IsWritten}
use Rattle.au_memory.specs.Loans.{Types}
use Rattle.au_modules.specs.Programs.{ModuleParts}
use Rattle.au_names.specs.declared.targets.Target.{Target}
use Rattle.au_names.specs.HeadsOf.{heads_of}
use Rattle.au_names.specs.Standing.{Standing, standing_at}
use Rattle.au_classes.specs.Rows.{rows_of}
use Rattle.au_closed_trees.specs.ClosedNotes.{instance}
use Rattle.au_closed_trees.specs.Parts.{field_under}
use Rattle.au_closed_trees.specs.TypeNames.{type_names}
use Rattle.au_closing.specs.Bodies.{BodyOf, body_of}
use Rattle.au_closing.specs.Instances.{Instance}
use Rattle.au_closing.specs.Leading.{a_function, call_leads, called_leads, called_of, called_standing, module_name}
use Rattle.au_closing.specs.Leading.{shipped_or, target_leads}
use Rattle.au_typing.specs.Notes.{Note}
use Rattle.au_typing.specs.Scopes.{Callable, Typed}
use Rattle.au_typing.specs.Trees.{NotedParts}
use Rattle.au_typing.specs.Written.{seen_at, types_at}
use Rattle.au_meaning.specs.Views.{invokes}
use Rattle.au_closed_meanings.specs.Generic.{field_seen, lead_does, parameters_under, view_under, with_names}
use Rattle.au_closed_meanings.specs.Surroundings.{field_names}
use Rattle.au_known_types.specs.Known.{EachIsDeclared}
use Rattle.au_safe_steps.specs.Orders.{AreApart}
use Rattle.au_running_lives.specs.Known.{AreActive}
use Rattle.au_judged_bodies.specs.StandingTypesStanding.{StandsFor}
use Rattle.au_judged_bodies.specs.Frames.{TypesAreUsable}
use Rattle.au_judged_bodies.specs.Rounds.{names_of}
use Rattle.au_judged_bodies.specs.Callees.{IsPut, RegionsStand}
use Rattle.au_judged_bodies.proofs.CalleeLemmas.{callee_stands, regions_stand, types_usable}
use Rattle.au_judged_bodies.specs.Sights.{CallIsSeen, kinds_taken}
use Rattle.au_judged_bodies.specs.Keys.{ConstraintsHold, Key, meant_or_unit, ways, written_running}
use Rattle.au_judged_bodies.specs.Functions.{BodyRuns, EachMeans, IsBodyOf, IsDeclaredWell}
use Rattle.au_judged_bodies.proofs.KeyLemmas.{regions_kept, tokens_active, tokens_in, types_kept}

-- ---- a body that is called

module _ (program : List ModuleParts) (body : BodyOf) (its s : Bindings) (z : ℕ) (put : Bindings) where
  -- parameters that are written in it have these names, and their running types for the caller
  abbrev pub EachRuns : List (Labelled Bytes) → List Typed → Type 0
  EachRuns [] [] = Unit {0}
  EachRuns (w ∷ ws) (one ∷ rest) =
      (w.name.name ≡ one.name) × (written_running program body its w.of ≡ running s z (substituted put one.of))
      × EachRuns ws rest
  EachRuns [] (one ∷ rest) = ⊥
  EachRuns (w ∷ ws) [] = ⊥

  -- their names as the meaning sees them
  labels_seen : (given : Given) (ws : List (Labelled Bytes)) (ps : List Typed) → EachRuns ws ps
      → field_names (map field_seen
      (map (field_under (types_at program body.place Body) (heads_of program) (written_params body.generics) given) ws))
      ≡ names_of ps
  labels_seen given [] [] each = refl
  labels_seen given [] (one ∷ rest) each = absurd each
  labels_seen given (w ∷ ws) [] each = absurd each
  labels_seen given (w ∷ ws) (one ∷ rest) each = λ i. each.0 i ∷ labels_seen given ws rest each.2 i

  -- and their types
  kinds_alike : (ws : List (Labelled Bytes)) (ps : List Typed) → EachRuns ws ps
      → map (λ (p : Labelled Bytes). written_running program body its p.of) ws ≡ kinds_taken s z put ps
  kinds_alike [] [] each = refl
  kinds_alike [] (one ∷ rest) each = absurd each
  kinds_alike (w ∷ ws) [] each = absurd each
  kinds_alike (w ∷ ws) (one ∷ rest) each = λ i. each.1 i ∷ kinds_alike ws rest each.2 i

-- a call that leads to an instance is seen to call it in one of its ways
pub key_seen : (types : Types) (owner : ClosedType → Option (List ℕ)) (program : List ModuleParts)
    (trees : List NotedParts) (place : ℕ) (params : List Parameter) (given : Given) (s : Bindings) (z : ℕ)
    (active : ℕ → Bool) (note : Note) (name : Bytes) (called : Callable) (put : Bindings) (key : Key program trees)
    → call_leads program place given note name ≡ instance (Some key.one)
    → EachRuns program key.body key.s s z put key.body.header.parameters called.parameters
    → written_running program key.body key.s key.body.header.result ≡ running s z note.of → AreActive active key.tokens
    → AreApart (names_of called.parameters)
    → CallIsSeen types owner (view_under program trees place params given) (ways program trees) active s z note name
    called
    put
key_seen types owner program trees place params given s z active note name called put key leads each gives tokens
    apart =
    record {
      one = record { parameters = names_of called.parameters; act = invokes key.one };
      seen = λ c.
          ap (lead_does program trees place (closed_under given note.of)) leads
          ∙ ap (λ o. with_names (option_map (λ (b : BodyOf). field_names
          (parameters_under program trees key.one.given b)) o)
          (invokes key.one)) key.there
          ∙ ap (λ l. with_names (Some l) (invokes key.one))
          (labels_seen program key.body key.s s z put key.one.given key.body.header.parameters called.parameters each);
      parameters = refl;
      apart = apart;
      performs = (
        key,
        refl,
        kinds_alike program key.body key.s s z put key.body.header.parameters called.parameters each,
        gives,
        tokens,
      );
    }

-- ---- functions

module _ (program : List ModuleParts) (body : BodyOf) (s : Bindings) (z : ℕ) (put : Bindings) (inner : List Parameter)
    (fixes : (t : Meaning) → IsWritten [] inner t → Fixes put t) where
  -- the running type of what is written is that of the caller
  pub type_taken : (t : Meaning) → IsWritten [] inner t → running (called_at s z put) 0 t ≡ running s z
      (substituted put t)
  type_taken t is = type_called s put (called_at s z put) z 0 (callees_run s put z) t is.lasting (fixes t is)

  kinds_so : (ws : List (Labelled Bytes)) (ps : List Typed) → EachMeans program body ws ps
      → EachIsDeclared (heads_of program) inner ps
      → EachRuns program body (called_at s z put) s z put ws ps
  kinds_so [] [] each declared = tt
  kinds_so [] (one ∷ rest) each declared = absurd each
  kinds_so (w ∷ ws) [] each declared = absurd each
  kinds_so (w ∷ ws) (one ∷ rest) each declared = (
    each.0,
    ap (λ o. running (called_at s z put) 0 (meant_or_unit o)) each.1 ∙ type_taken one.of declared.0.1,
    kinds_so ws rest each.2 declared.1,
  )

module _ (types : Types) (owner : ClosedType → Option (List ℕ)) (program : List ModuleParts) (trees : List NotedParts)
    (place : ℕ) (params : List Parameter) (regions : List Bytes) (given : Given) (s : Bindings) (z : ℕ)
    (active : ℕ → Bool) (runs : BodyRuns program params regions given s z active) where
  -- ---- the way in which a body is called

  module _ (at : Target) (body : BodyOf) (called : Callable) (put : Bindings)
      (there : body_of program trees at ≡ Some body)
      (is : IsBodyOf program body called)
      (puts : IsPut (heads_of program) params regions (parameters called.generics) put)
      (holds : ConstraintsHold program called.generics (called_at s z put)) where
    abbrev inner : List Parameter
    inner = parameters called.generics

    abbrev its : Bindings
    its = called_at s z put

    pub stand : RegionsStand active inner its
    stand = regions_stand (heads_of program) params regions given s z inner put runs.stands puts active runs.here
        runs.opened

    pub usable : TypesAreUsable active inner its
    usable = types_usable (heads_of program) params regions given s z inner put runs.stands puts active runs.here
        runs.opened
        runs.within

    abbrev key : Key program trees
    key = record {
      one = record { of = at; given = given_by given put (type_names inner) };
      body = body;
      there = there;
      s = its;
      stands = subst (λ ps. StandsFor (heads_of program) ps (given_by given put (type_names inner)) its) (sym is.over)
          (callee_stands (heads_of program) params regions given s z inner put runs.stands puts);
      holds = subst (λ gs. ConstraintsHold program gs its) (sym is.bounds) holds;
      tokens = tokens_in active its inner;
      regions = λ other are. subst (λ ps. RegionsStand other ps its) (sym is.over)
          (regions_kept active its other inner stand are);
      within = λ other are. subst (λ ps. TypesAreUsable other ps its) (sym is.over)
          (types_kept active its other inner usable are);
    }

  module _ (note : Note) (name : Bytes) (target : Target) (d : Standing) (declared : Bytes) (called : Callable)
      (put : Bindings) (body : BodyOf) (means : tables.find name (seen_at Callables program place Body) ≡ Some target)
      (found : standing_at program target.at ≡ Some d)
      (leading : called_of target.name d.says ≡ Some (a_function declared (type_names (parameters called.generics))))
      (unshipped : prim_of (module_name program target.at.«module») declared None ≡ None)
      (there : body_of program trees target ≡ Some body) (is : IsBodyOf program body called)
      (well : IsDeclaredWell program called) (notes : note.call ≡ Some put)
      (of : note.of ≡ substituted put called.result)
      (puts : IsPut (heads_of program) params regions (parameters called.generics) put)
      (holds : ConstraintsHold program called.generics (called_at s z put)) where
    abbrev one : Instance
    one = record { of = target; given = given_by given put (type_names (parameters called.generics)) }

    leads : call_leads program place given note name ≡ instance (Some one)
    leads =
        ap (target_leads program (rows_of program) given note) means
        ∙ ap (λ o. called_leads program (rows_of program) given note target (called_standing target.name o)) found
        ∙ ap (called_leads program (rows_of program) given note target) leading
        ∙ ap (λ o. shipped_or o (record {
          of = target;
          given = given_by given (unwrap_or note.call []) (type_names (parameters called.generics));
        })) unshipped
        ∙ ap (λ o. instance (Some (record {
          of = target;
          given = given_by given (unwrap_or o []) (type_names (parameters called.generics));
        }))) notes

    pub function_seen : CallIsSeen types owner (view_under program trees place params given) (ways program trees)
        active s
        z note name called put
    function_seen =
        key_seen types owner program trees place params given s z active note name called put
        (key target body called put there is puts holds) leads
        (kinds_so program body s z put (parameters called.generics) puts.fixes body.header.parameters called.parameters
        is.takes well.takes)
        (ap (λ o. running (called_at s z put) 0 (meant_or_unit o)) is.gives
        ∙ type_taken program body s z put (parameters called.generics) puts.fixes called.result well.gives.1
        ∙ ap (running s z) (sym of))
        (tokens_active active (called_at s z put) (parameters called.generics)) well.apart
