-- Calls of shipped functions where they run, in a program that begins with the shipped modules.
use Rattle.std.proofs.Common.{◌≡◌, inr, ℕ, Bool, true, List, [], ◌∷◌, ◌++◌, Option, None, Some, refl, ap, ◌∙◌}
use Rattle.std.proofs.Common.{subst}
use Rattle.std.specs.Prelude.{IsTrue, codes, is_some}
use Rattle.std.specs.Option.{option_map}
use Rattle.std.proofs.lemmas.Option.{same_Some}
use Rattle.au_base.specs.declared.kinds.IntKind.{IntKind}
use Rattle.au_base.specs.declared.kinds.IntKind.TheVariants as kinds
use Rattle.au_shipped.specs.declared.prims.ShippedCall.{ShippedCall}
use Rattle.au_shipped.specs.declared.prims.ShippedCall.TheVariants as prim
use Rattle.au_shipped.specs.Calls.{prim_of}
use Rattle.au_syntax.specs.declared.declarations.Universe.TheVariants as universes
use Rattle.au_syntax.specs.declared.modules.Part.TheVariants.{Body}
use Rattle.au_syntax.specs.Plain.{Bytes}
use Rattle.au_types.specs.declared.parameters.Parameter.{Parameter}
use Rattle.au_types.specs.declared.spaces.Space.TheVariants.{Callables}
use Rattle.au_types.specs.declared.types.Region.{Region}
use Rattle.au_types.specs.declared.types.Region.TheVariants.{Static, Named}
use Rattle.au_types.specs.DeclaredNames.{names_in, numbered}
use Rattle.au_types.specs.Meant.{meant}
use Rattle.au_types.specs.Tables.{find, firsts}
use Rattle.au_types.specs.Types.{Meaning, integer, of_type, parameter, reads, unit}
use Rattle.au_types.specs.Universes.{universe_in}
use Rattle.au_matching.specs.Bindings.{Bindings, value_of}
use Rattle.au_matching.specs.Fitting.{stand_in}
use Rattle.au_matching.specs.Forming.{fits, is_formed}
use Rattle.au_matching.specs.Substituted.{region_substituted, substituted, type_for}
use Rattle.au_matching.specs.Universes.{is_free, judged, of_parameter, universe_of}
use Rattle.au_judged_types.specs.Bounds.{parameters}
use Rattle.au_type_texts.specs.Given.{Given, closed_under, given_by}
use Rattle.au_type_texts.specs.Types as closed
use Rattle.au_type_texts.specs.Types.{ClosedType}
use Rattle.au_running_types.specs.Running.{argument_running, called as called_at, region_running, running}
use Rattle.au_running_types.proofs.NameLemmas.{callees_run, type_called}
use Rattle.au_modules.specs.Programs.{ModuleParts}
use Rattle.au_names.specs.declared.targets.Target.{Target}
use Rattle.au_names.specs.HeadsOf.{heads_of, rows_from}
use Rattle.au_names.specs.Standing.{Standing, standing_at, standing_from}
use Rattle.au_classes.specs.Rows.{rows_of}
use Rattle.au_judged_bodies.specs.TypeNames.{type_names}
use Rattle.au_judged_bodies.specs.Instances.{Instance}
use Rattle.au_judged_bodies.specs.Leading.{a_function, call_leads, called_leads, called_of, called_standing}
use Rattle.au_judged_bodies.specs.Leading.{module_name, shipped_or, target_leads}
use Rattle.au_judged_bodies.specs.Known.{InScope}
use Rattle.au_judged_bodies.specs.Notes.{Mode, Note}
use Rattle.au_judged_bodies.specs.Scopes.{Callable}
use Rattle.au_judged_bodies.specs.Trees.{NotedParts}
use Rattle.au_judged_bodies.specs.Written.{seen_at}
use Rattle.au_judged_bodies.specs.Tables.{types_of}
use Rattle.au_judged_bodies.specs.Generic.{lead_does, view_under}
use Rattle.au_meaning.specs.Views.{Callee, ships}
use Rattle.au_owners.specs.Owners.{owner_of}
use Rattle.au_safe_steps.specs.Granting.{IsOptionOf}
use Rattle.au_safe_steps.specs.Orders.{AreApart}
use Rattle.au_sound_calls.specs.Sound.{IsHomeOf}
use Rattle.au_judged_bodies.specs.Rounds.{names_of}
use Rattle.au_judged_bodies.specs.Callees.{IsPut}
use Rattle.au_judged_bodies.proofs.CalleeLemmas.{callee_stands, regions_stand}
use Rattle.au_judged_bodies.specs.Sights.{CallIsSeen}
use Rattle.au_judged_bodies.specs.Functions.{BodyRuns}
use Rattle.au_judged_bodies.specs.Keys.{ways}
use Rattle.au_judged_programs.proofs.ShippedFrontLemmas.{front}
use Rattle.au_judged_programs.proofs.ShippedSignatureLemmas.{box_of, buffer_of, declared_at, item, option_of, root}
use Rattle.au_judged_programs.proofs.ShippedSignatureLemmas.{signature, terminal}

-- ---- what is put for T and R

abbrev region_in : Meaning → Region
region_in (reads t region) = region
region_in other = Static

module _ (program : List ModuleParts) (params : List Parameter) (regions : List Bytes) (given : Given) (s : Bindings)
    (z : ℕ) (active : ℕ → Bool) (runs : BodyRuns program params regions given s z active) (inner : List Parameter)
    (put : Bindings) (puts : IsPut (heads_of program) params regions inner put) where
  -- what a region of the callee is for the caller may be used
  region_usable : (name : Bytes) → universe_in inner name ≡ Some universes.Region
      → InScope active (region_running s z (region_substituted put (Named name)))
  region_usable name there =
      subst (InScope active)
      (ap region_in (type_called s put (called_at s z put) z 0 (callees_run s put z) (reads unit (Named name)) refl
      (puts.fixes (reads unit (Named name)) (record { lasting = refl; names = (tt, inr there) }))))
      (regions_stand (heads_of program) params regions given s z inner put runs.stands puts active runs.here runs.opened
      name there)

  -- what is put for a Free type parameter is Free where the caller runs
  free_put : (name : Bytes) → universe_in inner name ≡ Some universes.Free
      → (types_of program).is_free (running s z (substituted put (parameter name))) ≡ true
  free_put name there =
      let its = puts.fixes (parameter name)
      (record { lasting = refl; names = ap (λ o. is_some (of_parameter o)) there }) in
      let value : value_of name (called_at s z put) ≡ Some (of_type (running s z its.0)) =
      callees_run s put z name ∙ ap (option_map (argument_running s z)) its.1 in
      let formed = (callee_stands (heads_of program) params regions given s z inner put runs.stands puts).formed name
      universes.Free there in
      ap (λ o. is_free (universe_of (heads_of program) [] (running s z (type_for o name)))) its.1
      ∙ subst (λ o. IsTrue (fits (heads_of program) [] universes.Free (stand_in o universes.Free name))) value formed.0

-- ---- shipped types

module _ (rest : List ModuleParts) where
  abbrev program : List ModuleParts
  program = front ++ rest

  box_home : (args : closed.ClosedTypes)
      → IsHomeOf (owner_of program) (closed.named (declared_at 1 0) args) (codes "Standard.Box")
  unfolding standing_from
  box_home args own e = same_Some (codes "Standard.Box") own e

  buffer_home : (args : closed.ClosedTypes)
      → IsHomeOf (owner_of program) (closed.named (declared_at 2 0) args) (codes "Standard.Buffer")
  unfolding standing_from
  buffer_home args own e = same_Some (codes "Standard.Buffer") own e

  terminal_home : (args : closed.ClosedTypes)
      → IsHomeOf (owner_of program) (closed.named (declared_at 3 0) args) (codes "Standard.IO.Terminal")
  unfolding standing_from
  terminal_home args own e = same_Some (codes "Standard.IO.Terminal") own e

  boxed_is : (t : Meaning) → (types_of program).boxed (box_of t) ≡ Some t
  unfolding standing_from rows_from firsts names_in numbered
  boxed_is t = refl

  buffered_is : (t : Meaning) → (types_of program).buffered (buffer_of t) ≡ Some t
  unfolding standing_from rows_from firsts names_in numbered
  buffered_is t = refl

  root_is : (types_of program).is_root root ≡ true
  unfolding standing_from rows_from firsts names_in numbered
  root_is = refl

  terminal_is : (types_of program).is_terminal terminal ≡ true
  unfolding standing_from rows_from firsts names_in numbered
  terminal_is = refl

  pub option_is : (kind : IntKind) → IsOptionOf (types_of program) (option_of (integer kind)) (integer kind)
  unfolding standing_from rows_from firsts names_in numbered meant is_formed universe_of judged
  option_is kind = record { free = refl; none_is = refl; some_is = refl }

-- ---- calls

module _ (rest : List ModuleParts) (trees : List NotedParts) (place : ℕ) (params : List Parameter)
    (regions : List Bytes) (given : Given) (s : Bindings) (z : ℕ) (active : ℕ → Bool)
    (runs : BodyRuns (front ++ rest) params regions given s z active) (name : Bytes) (target : Target) (d : Standing)
    (means : find name (seen_at Callables (front ++ rest) place Body) ≡ Some target)
    (found : standing_at (front ++ rest) target.at ≡ Some d) (mode : Mode) (put : Bindings) (declared : Bytes) where
  abbrev whole : List ModuleParts
  whole = front ++ rest

  -- the note of a call of this
  abbrev note_of : Callable → Note
  note_of called = record { mode = mode; of = substituted put called.result; call = Some put }

  abbrev names : Callable → List Bytes
  names called = type_names (parameters called.generics)

  abbrev one_of : Callable → Instance
  one_of called = record { of = target; given = given_by given put (names called) }

  -- what is asked of a call of this
  pub record IsCalled (called : Callable) (call : ShippedCall) : Type 0 where
    pub leads : called_of target.name d.says ≡ Some (a_function declared (names called))
    pub is : prim_of (module_name whole target.at.«module») declared None ≡ Some call
    pub apart : AreApart (names_of called.parameters)
    pub puts : IsPut (heads_of whole) params regions (parameters called.generics) put

  -- how the meaning sees it
  sees : (called : Callable) (call : ShippedCall) → IsCalled called call
      → lead_does whole trees place (closed_under given (substituted put called.result))
      (call_leads whole place given (note_of called) name)
      ≡ lead_does whole trees place (closed_under given (substituted put called.result))
      (shipped_or (Some call) (one_of called))
  sees called call asked =
      ap (λ l. lead_does whole trees place (closed_under given (substituted put called.result)) l)
      (ap (target_leads whole (rows_of whole) given (note_of called)) means
      ∙ ap (λ o. called_leads whole (rows_of whole) given (note_of called) target (called_standing target.name o)) found
      ∙ ap (called_leads whole (rows_of whole) given (note_of called) target) asked.leads
      ∙ ap (λ o. shipped_or o (one_of called)) asked.is)

  abbrev pub Seen : Callable → Type 0
  Seen called =
      CallIsSeen (types_of whole) (owner_of whole) (view_under whole trees place params given) (ways whole trees) active
      s z (note_of called) name called put

  -- it is seen, if it is a function
  abbrev pub SeenAs : ShippedCall → Option Callable → Type 0
  SeenAs call None = Unit {0}
  SeenAs call (Some called) = IsCalled called call → Seen called

  -- T and R, for the caller
  abbrev its_item : Meaning
  its_item = running s z (substituted put item)

  abbrev here : Region
  here = region_running s z (region_substituted put (Named (codes "R")))

  usable : (called : Callable) (call : ShippedCall) → IsCalled called call
      → universe_in (parameters called.generics) (codes "R") ≡ Some universes.Region → InScope active here
  usable called call asked there =
      region_usable whole params regions given s z active runs (parameters called.generics) put asked.puts (codes "R")
      there

  free_item : (called : Callable) (call : ShippedCall) → IsCalled called call
      → universe_in (parameters called.generics) (codes "T") ≡ Some universes.Free
      → (types_of whole).is_free its_item ≡ true
  free_item called call asked there =
      free_put whole params regions given s z active runs (parameters called.generics) put asked.puts (codes "T") there

  -- what is called: the names of its parameters, and what it does
  abbrev calls : List Bytes → ShippedCall → Option ClosedType → Callee Instance
  calls labels call born = record { parameters = labels; act = ships call born }

  -- the first type of a module is born
  abbrev born_of : ℕ → closed.ClosedTypes → Option ClosedType
  born_of its_module args = Some (closed.named (declared_at its_module 0) args)

  abbrev of_item : closed.ClosedTypes
  of_item = closed.types (closed_under given (substituted put item)) closed.no_types

  -- ---- Austral.Pervasive

  surrender_root_seen : SeenAs prim.SurrenderRoot (signature prim.SurrenderRoot)
  surrender_root_seen = λ asked. record {
    one = calls (codes "root" ∷ []) prim.SurrenderRoot None;
    seen = λ c. sees _ prim.SurrenderRoot asked;
    parameters = refl;
    apart = asked.apart;
    performs = (root, refl, root_is rest, refl, refl);
  }

  abort_seen : SeenAs prim.Abort (signature prim.Abort)
  abort_seen = λ asked. record {
    one = calls (codes "message" ∷ []) prim.Abort None;
    seen = λ c. sees _ prim.Abort asked;
    parameters = refl;
    apart = asked.apart;
    performs = (refl, refl);
  }

  span_length_seen : SeenAs prim.SpanLength (signature prim.SpanLength)
  span_length_seen = λ asked. record {
    one = calls (codes "span" ∷ []) prim.SpanLength None;
    seen = λ c. sees _ prim.SpanLength asked;
    parameters = refl;
    apart = asked.apart;
    performs = (refl, refl, refl);
  }

  swap_seen : SeenAs prim.Swap (signature prim.Swap)
  swap_seen = λ asked. record {
    one = calls (codes "ref" ∷ codes "value" ∷ []) prim.Swap None;
    seen = λ c. sees _ prim.Swap asked;
    parameters = refl;
    apart = asked.apart;
    performs = (refl, (here, usable _ _ asked refl, refl));
  }

  -- ---- boxes

  make_box_seen : SeenAs prim.MakeBox (signature prim.MakeBox)
  make_box_seen = λ asked. record {
    one = calls (codes "value" ∷ []) prim.MakeBox (born_of 1 of_item);
    seen = λ c. sees _ prim.MakeBox asked;
    parameters = refl;
    apart = asked.apart;
    performs = (its_item, boxed_is rest its_item, refl, (_, refl, box_home rest of_item));
  }

  unbox_seen : SeenAs prim.Unbox (signature prim.Unbox)
  unbox_seen = λ asked. record {
    one = calls (codes "box" ∷ []) prim.Unbox None;
    seen = λ c. sees _ prim.Unbox asked;
    parameters = refl;
    apart = asked.apart;
    performs = (box_of its_item, refl, boxed_is rest its_item, refl);
  }

  box_get_seen : SeenAs prim.BoxGet (signature prim.BoxGet)
  box_get_seen = λ asked. record {
    one = calls (codes "ref" ∷ []) prim.BoxGet None;
    seen = λ c. sees _ prim.BoxGet asked;
    parameters = refl;
    apart = asked.apart;
    performs = (box_of its_item, its_item, here, refl, boxed_is rest its_item, usable _ _ asked refl, refl, refl);
  }

  box_get_mut_seen : SeenAs prim.BoxGetMut (signature prim.BoxGetMut)
  box_get_mut_seen = λ asked. record {
    one = calls (codes "ref" ∷ []) prim.BoxGetMut None;
    seen = λ c. sees _ prim.BoxGetMut asked;
    parameters = refl;
    apart = asked.apart;
    performs = (box_of its_item, its_item, here, refl, boxed_is rest its_item, usable _ _ asked refl, refl, refl);
  }

  -- ---- buffers

  make_empty_seen : SeenAs prim.MakeEmpty (signature prim.MakeEmpty)
  make_empty_seen = λ asked. record {
    one = calls [] prim.MakeEmpty (born_of 2 of_item);
    seen = λ c. sees _ prim.MakeEmpty asked;
    parameters = refl;
    apart = asked.apart;
    performs = (its_item, buffered_is rest its_item, refl, (_, refl, buffer_home rest of_item));
  }

  destroy_empty_seen : SeenAs prim.DestroyEmpty (signature prim.DestroyEmpty)
  destroy_empty_seen = λ asked. record {
    one = calls (codes "buffer" ∷ []) prim.DestroyEmpty None;
    seen = λ c. sees _ prim.DestroyEmpty asked;
    parameters = refl;
    apart = asked.apart;
    performs = (buffer_of its_item, its_item, refl, buffered_is rest its_item, refl, refl);
  }

  length_seen : SeenAs prim.Length (signature prim.Length)
  length_seen = λ asked. record {
    one = calls (codes "ref" ∷ []) prim.Length None;
    seen = λ c. sees _ prim.Length asked;
    parameters = refl;
    apart = asked.apart;
    performs = (
      buffer_of its_item,
      its_item,
      refl,
      buffered_is rest its_item,
      (here, usable _ _ asked refl, refl),
      refl,
    );
  }

  insert_back_seen : SeenAs prim.InsertBack (signature prim.InsertBack)
  insert_back_seen = λ asked. record {
    one = calls (codes "ref" ∷ codes "value" ∷ []) prim.InsertBack None;
    seen = λ c. sees _ prim.InsertBack asked;
    parameters = refl;
    apart = asked.apart;
    performs = (
      buffer_of its_item,
      its_item,
      refl,
      buffered_is rest its_item,
      (here, usable _ _ asked refl, refl),
      refl,
    );
  }

  remove_back_seen : SeenAs prim.RemoveBack (signature prim.RemoveBack)
  remove_back_seen = λ asked. record {
    one = calls (codes "ref" ∷ []) prim.RemoveBack None;
    seen = λ c. sees _ prim.RemoveBack asked;
    parameters = refl;
    apart = asked.apart;
    performs = (buffer_of its_item, refl, buffered_is rest its_item, (here, usable _ _ asked refl, refl));
  }

  nth_seen : SeenAs prim.Nth (signature prim.Nth)
  nth_seen = λ asked. record {
    one = calls (codes "ref" ∷ codes "index" ∷ []) prim.Nth None;
    seen = λ c. sees _ prim.Nth asked;
    parameters = refl;
    apart = asked.apart;
    performs = (
      buffer_of its_item,
      refl,
      buffered_is rest its_item,
      free_item _ _ asked refl,
      (here, usable _ _ asked refl, refl),
    );
  }

  replace_nth_seen : SeenAs prim.ReplaceNth (signature prim.ReplaceNth)
  replace_nth_seen = λ asked. record {
    one = calls (codes "ref" ∷ codes "index" ∷ codes "value" ∷ []) prim.ReplaceNth None;
    seen = λ c. sees _ prim.ReplaceNth asked;
    parameters = refl;
    apart = asked.apart;
    performs = (buffer_of its_item, refl, buffered_is rest its_item, (here, usable _ _ asked refl, refl));
  }

  -- ---- terminals

  acquire_terminal_seen : SeenAs prim.AcquireTerminal (signature prim.AcquireTerminal)
  acquire_terminal_seen = λ asked. record {
    one = calls (codes "root" ∷ []) prim.AcquireTerminal (born_of 3 closed.no_types);
    seen = λ c. sees _ prim.AcquireTerminal asked;
    parameters = refl;
    apart = asked.apart;
    performs = (
      root,
      root_is rest,
      terminal_is rest,
      (here, usable _ _ asked refl, refl),
      (_, refl, terminal_home rest closed.no_types),
    );
  }

  read_byte_seen : SeenAs prim.ReadByte (signature prim.ReadByte)
  read_byte_seen = λ asked. record {
    one = calls (codes "ref" ∷ []) prim.ReadByte None;
    seen = λ c. sees _ prim.ReadByte asked;
    parameters = refl;
    apart = asked.apart;
    performs = (terminal, refl, terminal_is rest, (here, usable _ _ asked refl, refl), option_is rest kinds.Nat8);
  }

  write_byte_seen : SeenAs prim.WriteByte (signature prim.WriteByte)
  write_byte_seen = λ asked. record {
    one = calls (codes "ref" ∷ codes "byte" ∷ []) prim.WriteByte None;
    seen = λ c. sees _ prim.WriteByte asked;
    parameters = refl;
    apart = asked.apart;
    performs = (terminal, refl, terminal_is rest, (here, usable _ _ asked refl, refl), refl);
  }

  release_terminal_seen : SeenAs prim.ReleaseTerminal (signature prim.ReleaseTerminal)
  release_terminal_seen = λ asked. record {
    one = calls (codes "terminal" ∷ []) prim.ReleaseTerminal None;
    seen = λ c. sees _ prim.ReleaseTerminal asked;
    parameters = refl;
    apart = asked.apart;
    performs = (terminal, refl, terminal_is rest, refl, refl);
  }

  -- ---- all

  pub all_seen : (call : ShippedCall) → SeenAs call (signature call)
  all_seen prim.SurrenderRoot = surrender_root_seen
  all_seen prim.Abort = abort_seen
  all_seen prim.SpanLength = span_length_seen
  all_seen prim.Swap = swap_seen
  all_seen prim.MakeBox = make_box_seen
  all_seen prim.Unbox = unbox_seen
  all_seen prim.BoxGet = box_get_seen
  all_seen prim.BoxGetMut = box_get_mut_seen
  all_seen prim.MakeEmpty = make_empty_seen
  all_seen prim.DestroyEmpty = destroy_empty_seen
  all_seen prim.Length = length_seen
  all_seen prim.InsertBack = insert_back_seen
  all_seen prim.RemoveBack = remove_back_seen
  all_seen prim.Nth = nth_seen
  all_seen prim.ReplaceNth = replace_nth_seen
  all_seen prim.AcquireTerminal = acquire_terminal_seen
  all_seen prim.ReadByte = read_byte_seen
  all_seen prim.WriteByte = write_byte_seen
  all_seen prim.ReleaseTerminal = release_terminal_seen
  all_seen prim.PrintText = tt
  all_seen prim.PrintInt = tt
  all_seen prim.PrintBool = tt
  all_seen prim.PrintLnText = tt
  all_seen prim.PrintLnInt = tt
  all_seen prim.PrintLnBool = tt
  all_seen (prim.Wrap op kind) = tt
  all_seen (prim.Convert kind) = tt
