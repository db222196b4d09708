-- Reached instances are sound, and each of their calls leads somewhere.
use Rattle.std.proofs.Common.{◌≡◌, ◌⊎◌, inl, inr, true, false, List, [], ◌∷◌, Option, None, Some, map, refl}
use Rattle.std.proofs.Common.{sym, ap, subst}
use Rattle.std.specs.Prelude.{Contains, unwrap_or}
use Rattle.std.specs.Option.{option_map}
use Rattle.std.proofs.lemmas.Bool.{or_cases, or_left, or_right}
use Rattle.au_base.proofs.ListLemmas.{nothing_there}
use Rattle.au_shipped.specs.declared.prims.ShippedCall.{ShippedCall}
use Rattle.au_shipped.specs.Calls.{prim_of}
use Rattle.au_syntax.specs.declared.declarations.Universe.{Universe}
use Rattle.au_syntax.specs.Plain.{Bytes}
use Rattle.au_types.specs.declared.headings.Head.{Head}
use Rattle.au_types.specs.declared.types.DeclAt.{DeclAt}
use Rattle.au_types.specs.Types.{Meaning, parameter}
use Rattle.au_matching.specs.Substituted.{substituted}
use Rattle.au_type_texts.specs.Types.{ClosedType}
use Rattle.au_modules.specs.Programs.{ModuleParts}
use Rattle.au_names.specs.declared.targets.Target.{Target}
use Rattle.au_names.specs.HeadsOf.{heads_of}
use Rattle.au_judged_types.specs.Bounds.{parameters}
use Rattle.au_instances.specs.ClosedInstances.{ClosedHolds, ClosedInstance, given, closed_row, closed_stands, part_of}
use Rattle.au_instances.specs.Rows.{Row}
use Rattle.au_instances.proofs.ClosedLemmas.{closed_row_there}
use Rattle.au_classes.specs.Rows.{rows_of}
use Rattle.au_typing.specs.Notes.{Note}
use Rattle.au_typing.specs.Trees.{NotedParts}
use Rattle.au_graphs.specs.Reached.{Has, Lists, Reached, follows, has, start}
use Rattle.au_closed_trees.specs.ClosedNotes.{Callee, constructor, instance, shipped}
use Rattle.au_type_texts.specs.Given.{closed_under, given_by, given_for}
use Rattle.au_closing.proofs.ClosesLemmas.{instances_told}
use Rattle.au_closing.specs.Closes.{ClosedFunction, ClosesFunctions, body_closed, calls_in_body, calls_of}
use Rattle.au_closing.specs.Closes.{instance_closed}
use Rattle.au_closing.specs.Instances.{Instance, given_of_row, instance_of, method_at, same_instance}
use Rattle.au_closing.specs.Leading.{Called, a_function, a_maker, a_method, at_type, call_leads, called_leads}
use Rattle.au_closing.specs.Leading.{kind_of, method_by_row, method_leads, module_name, shipped_or}
use Rattle.au_closing.specs.Leading.{target_leads}
use Rattle.au_closing_laws.specs.Sound.{IsSomewhere, IsSound}
use Rattle.au_closing_laws.specs.Targets.{Call, CallIsTyped, FunctionIsTyped, IsEntry, IsTyped, IsTypeOf}
use Rattle.au_closing_laws.specs.Targets.{MethodIsThere, MethodIsTyped, bounds_of, calls_listed}
use Rattle.au_closing_laws.specs.Targets.{function_has_body, function_is_shipped, method_has_body}
use Rattle.au_closing_laws.specs.Targets.{method_is_shipped, scope_of}
use Rattle.au_closing_laws.proofs.CallLemmas.{in_block, some_call}
use Rattle.au_closing_laws.proofs.RowLemmas.{given_found, row_suits, type_named}
use Rattle.au_closing_laws.proofs.ScopeLemmas.{holds_given, suited}

module _ (program : List ModuleParts) (noted : List NotedParts) (typed : IsTyped program noted) where
  abbrev Somewhere : Callee (Option Instance) → Type 0
  Somewhere = IsSomewhere program noted

  abbrev rows : List Row
  rows = rows_of program

  abbrev heads : List (DeclAt × Head)
  heads = heads_of program

  -- a shipped call or a sound instance is somewhere
  somewhere : (o : Option ShippedCall) (one : Instance) → IsSound program noted one → Somewhere (shipped_or o one)
  somewhere None one sound = sound
  somewhere (Some call) one sound = tt

  -- ---- the calls of a sound instance

  module _ (one : Instance) (sound : IsSound program noted one) (note : Note) where
    abbrev put_for : Bytes → Meaning
    put_for name = substituted (unwrap_or note.call []) (parameter name)

    function_somewhere : (target : Target) (name : Bytes) (names : List Bytes)
        → FunctionIsTyped program noted sound.body note target name names
        → Somewhere (called_leads program rows one.given note target (Some (a_function name names)))
    function_somewhere target name names (function_is_shipped call e) =
        subst (λ o. Somewhere (shipped_or o
        (record { of = target; given = given_by one.given (unwrap_or note.call []) names })))
        (sym e) tt
    function_somewhere target name names (function_has_body callee there same each) =
        somewhere (prim_of (module_name program target.at.«module») name None)
        (record { of = target; given = given_by one.given (unwrap_or note.call []) names })
        (record { body = callee; there = there; suits = suits })
      where
        suits : (p : Bytes) (universe : Universe) → IsTypeOf (scope_of program callee) p universe
            → closed_stands heads (bounds_of program callee) (Some p)
            (part_of rows heads (given_for (given_by one.given (unwrap_or note.call []) names) p)) ≡ true
        suits p universe is =
            let for_it = each p universe is in
            let among = subst (λ l. Contains l p) same
            (type_named (scope_of program callee) p universe is.declared is.is_type) in
            subst (λ t. closed_stands heads (bounds_of program callee) (Some p) (part_of rows heads t) ≡ true)
            (sym (given_found one.given (unwrap_or note.call []) names p among))
            (suited rows heads typed.table (bounds_of program sound.body) one.given sound.suits
            (bounds_of program callee) p universe (put_for p) is for_it.stands for_it.taken for_it.holds)

    row_somewhere : (class : DeclAt) (name : Bytes) (t : ClosedType) (row : Row) → ClosedInstance rows heads class t row
        → MethodIsThere program noted name row t
        → Somewhere (method_by_row program name t row)
    row_somewhere class name t row given_so (method_is_shipped call e) =
        subst (λ o. Somewhere (shipped_or (option_map (at_type t) o) (method_at name t row))) (sym e) tt
    row_somewhere class name t row given_so (method_has_body body there same) =
        somewhere (option_map (at_type t) (prim_of (module_name program row.instance.«module») name (kind_of t)))
        (method_at name t row) (record { body = body; there = there; suits = suits })
      where
        suits : (p : Bytes) (universe : Universe) → IsTypeOf (scope_of program body) p universe
            → closed_stands heads (bounds_of program body) (Some p)
            (part_of rows heads (given_for (given_of_row row t) p)) ≡ true
        suits p universe =
            subst (λ g. IsTypeOf (parameters g) p universe
            → closed_stands heads g (Some p) (part_of rows heads (given_for (given_of_row row t) p)) ≡ true)
            (sym same) (row_suits rows heads typed.table class t row given_so p universe)

    method_somewhere : (target : Target) (name param : Bytes)
        → MethodIsTyped program noted sound.body note target.at name param
        → Somewhere (called_leads program rows one.given note target (Some (a_method name param)))
    method_somewhere target name param m =
        by target.at (closed_under one.given (put_for param)) m.there
        (holds_given rows heads typed.table (bounds_of program sound.body) one.given sound.suits target.at
        (put_for param)
        m.stands m.holds)
      where
        by : (class : DeclAt) (t : ClosedType)
            → ((row : Row) (u : ClosedType) → ClosedInstance rows heads class u row →
            MethodIsThere program noted name row u)
            → ClosedHolds rows heads class t
            → Somewhere (method_leads program rows name t (closed_row rows heads t class))
        by class t each (given c u row given_so) =
            subst (λ o. Somewhere (method_leads program rows name u o))
            (sym (closed_row_there rows heads typed.table c u row given_so))
            (row_somewhere c name u row given_so (each row u given_so))

    called_somewhere : (target : Target) (called : Called) → CallIsTyped program noted sound.body note target called
        → Somewhere (called_leads program rows one.given note target (Some called))
    called_somewhere target (a_function name names) h = function_somewhere target name names h
    called_somewhere target (a_method name param) h = method_somewhere target name param h
    called_somewhere target (a_maker place) h = tt

  pub call_somewhere : (one : Instance) (sound : IsSound program noted one) (call : Call)
      → Contains (calls_listed sound.body.block) call
      → IsSomewhere program noted (call_leads program sound.body.place one.given call.0 call.1)
  call_somewhere one sound call c =
      let n = typed.calls one.of sound.body sound.there call c in
      subst (λ o. Somewhere (target_leads program rows one.given call.0 o)) (sym n.means)
      (subst (λ o. Somewhere (called_leads program rows one.given call.0 n.target o)) (sym n.has)
      (called_somewhere one sound call.0 n.target n.called n.typed))

  -- ---- reached instances

  -- the instance that is found in what leads somewhere is sound
  led_sound : (lead : Callee (Option Instance)) (x : Instance) → Somewhere lead → Has same_instance (instance_of lead) x
      → IsSound program noted x
  led_sound (instance None) x h there = absurd h
  led_sound (instance (Some one)) x h there = by (or_cases (same_instance x one) false there)
    where
      by : (same_instance x one ≡ true) ⊎ (false ≡ true) → IsSound program noted x
      by (inl same) = subst (IsSound program noted) (sym (instances_told.agrees x one same)) h
      by (inr never) = absurd cc
  led_sound (constructor t tag) x h there = absurd cc
  led_sound (shipped call) x h there = absurd cc

  next_sound : (k x : Instance) → IsSound program noted k → Has same_instance (calls_of program noted k) x
      → IsSound program noted x
  next_sound k x sound there =
      let leads : Note → Unit {0} → Bytes → List Instance =
      λ note c name. instance_of (call_leads program sound.body.place k.given note name) in
      let in_body : Has same_instance (calls_in_body program noted k.given (Some sound.body)) x =
      subst (λ o. Has same_instance (calls_in_body program noted k.given o) x) sound.there there in
      let found = some_call leads same_instance (calls_listed sound.body.block) x
      (subst (λ l. Has same_instance l x) (in_block leads sound.body.block) in_body) in
      led_sound (call_leads program sound.body.place k.given found.0.0 found.0.1) x
      (call_somewhere k sound found.0 found.1) found.2

  entry_sound : (entry : Instance) → IsEntry program noted entry → IsSound program noted entry
  entry_sound entry is = record { body = is.body; there = is.there; suits = suits }
    where
      suits : (name : Bytes) (universe : Universe) → IsTypeOf (scope_of program is.body) name universe
          → closed_stands heads (bounds_of program is.body) (Some name)
          (part_of rows heads (given_for entry.given name)) ≡ true
      suits name universe t =
          absurd (nothing_there name (subst (λ l. Contains l name) is.plain
          (type_named (scope_of program is.body) name universe t.declared t.is_type)))

  pub reached_sound : (entry : Instance) → IsEntry program noted entry → (one : Instance)
      → Reached same_instance (calls_of program noted) (entry ∷ []) one → IsSound program noted one
  reached_sound entry is _ (start x there) = led_sound (instance (Some entry)) x (entry_sound entry is) there
  reached_sound entry is _ (follows k x reached there) = next_sound k x (reached_sound entry is k reached) there

  -- ---- closed trees

  -- instances that are sound have their closed trees
  all_closed : (all some : List Instance) → ((x : Instance) → Has same_instance some x → IsSound program noted x)
      → (functions : List ClosedFunction) × (map Some functions ≡ map (instance_closed program noted all) some)
  all_closed all [] each = ([], refl)
  all_closed all (x ∷ some) each =
      let here = or_left (same_instance x x) (has same_instance some x) (instances_told.itself x) in
      let sound = each x here in
      let others = all_closed all some (λ y h. each y (or_right (same_instance y x) (has same_instance some y) h)) in
      let one = ap (option_map (body_closed program noted all x.given)) (sym sound.there) in
      (body_closed program noted all x.given sound.body ∷ others.0, λ i. one i ∷ others.1 i)

  pub typed_closes : (entry : Instance) → IsEntry program noted entry → (all : List Instance)
      → Lists same_instance (calls_of program noted) (entry ∷ []) all
      → (functions : List ClosedFunction) × ClosesFunctions program noted entry functions
  typed_closes entry is all lists =
      let trees = all_closed all all (λ x h. reached_sound entry is x (lists.reached x h)) in
      (trees.0, record { instances = all; lists = lists; closed = trees.1 })
