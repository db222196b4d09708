-- What a shipped function is called with and gives, in a program that begins with the shipped modules.
use Rattle.std.proofs.Common.{◌≡◌, inl, inr, ℕ, zero, suc, Bool, true, false, true≢false, not, List, [], ◌∷◌, ◌++◌}
use Rattle.std.proofs.Common.{Option, None, Some, cond, refl, sym, ap, ◌∙◌, subst}
use Rattle.std.specs.Prelude.{codes, find, position, slice_get, unwrap_or}
use Rattle.std.specs.Option.{option_map}
use Rattle.std.specs.Str.{bytes_eq}
use Rattle.std.proofs.lemmas.Bool.{not-true}
use Rattle.std.proofs.lemmas.Option.{none-some, same_Some}
use Rattle.std.proofs.lemmas.Slice.Eq.{bytes_eq-Decides}
use Rattle.au_base.specs.declared.kinds.IntKind.TheVariants as kinds
use Rattle.au_shipped.specs.declared.prims.ShippedCall.{ShippedCall}
use Rattle.au_shipped.specs.declared.prims.ShippedCall.TheVariants as prim
use Rattle.au_shipped.specs.Calls.{box_calls, buffer_calls, call_in, pervasive_calls, prim_of, terminal_calls}
use Rattle.au_syntax.specs.declared.declarations.Universe.{Universe}
use Rattle.au_syntax.specs.declared.declarations.Universe.TheVariants as universes
use Rattle.au_syntax.specs.Modules.{Header, constant, opaque_type, record_type, union_type, function, class}
use Rattle.au_syntax.specs.Modules.{instance, constant_body, function_body, instance_body}
use Rattle.au_syntax.specs.Plain.{Bytes, PlainDeclaration}
use Rattle.au_types.specs.declared.types.DeclAt.{DeclAt}
use Rattle.au_types.specs.declared.types.Region.TheVariants.{Named}
use Rattle.au_types.specs.DeclaredNames.{names_in, numbered}
use Rattle.au_types.specs.Meant.{meant}
use Rattle.au_types.specs.Tables.{firsts}
use Rattle.au_types.specs.Types.{Meaning, arguments, integer, named, no_arguments, of_type, parameter, reads}
use Rattle.au_types.specs.Types.{text, unit, writes}
use Rattle.au_judged_types.specs.Bounds.{Bounded}
use Rattle.au_modules.specs.Programs.{ModuleParts}
use Rattle.au_names.specs.declared.targets.Target.{Target}
use Rattle.au_names.specs.HeadsOf.{rows_from}
use Rattle.au_names.specs.Standing.{Standing, module_standing, standing_at, standing_from, standing_in}
use Rattle.au_names.proofs.AmongLemmas.{Among}
use Rattle.au_closing_laws.proofs.GatheredLemmas.{all_among, among_get}
use Rattle.au_judged_bodies.specs.Leading.{Called, a_function, a_maker, called_of, method_called, module_name}
use Rattle.au_judged_bodies.specs.Called.{declared_callable, is_case, is_method}
use Rattle.au_judged_bodies.specs.Scopes.{Callable, Typed}
use Rattle.au_judged_programs.specs.CalledBodiesBodies.{is_function}
use Rattle.au_judged_programs.proofs.BirthLemmas.{IsOfShipped}
use Rattle.au_judged_programs.proofs.ShippedFrontLemmas.{HasFront, box_module, buffer_module, front, own_module}
use Rattle.au_judged_programs.proofs.ShippedFrontLemmas.{terminal_module}

-- ---- the types that are declared there

abbrev pub declared_at : ℕ → ℕ → DeclAt
declared_at place number = record { «module» = place; decl = number }

abbrev pub option_of : Meaning → Meaning
option_of t = named (declared_at 0 0) (arguments (of_type t) no_arguments)

abbrev pub root : Meaning
root = named (declared_at 0 3) no_arguments

abbrev pub box_of : Meaning → Meaning
box_of t = named (declared_at 1 0) (arguments (of_type t) no_arguments)

abbrev pub buffer_of : Meaning → Meaning
buffer_of t = named (declared_at 2 0) (arguments (of_type t) no_arguments)

abbrev pub terminal : Meaning
terminal = named (declared_at 3 0) no_arguments

-- ---- the names of the modules

abbrev own_home : Bytes
own_home = codes "Austral.Pervasive"

abbrev box_home : Bytes
box_home = codes "Standard.Box"

abbrev buffer_home : Bytes
buffer_home = codes "Standard.Buffer"

abbrev terminal_home : Bytes
terminal_home = codes "Standard.IO.Terminal"

-- ---- signatures

-- T and R
abbrev pub item : Meaning
item = parameter (codes "T")

abbrev pub read_here : Meaning → Meaning
read_here t = reads t (Named (codes "R"))

abbrev pub written_here : Meaning → Meaning
written_here t = writes t (Named (codes "R"))

abbrev over : Bytes → Universe → Bounded
over name universe = record { parameter = record { name = name; universe = universe }; classes = [] }

abbrev any_item : List Bounded
any_item = over (codes "T") universes.AnyType ∷ []

abbrev region : Bounded
region = over (codes "R") universes.Region

abbrev item_in_region : List Bounded
item_in_region = over (codes "T") universes.AnyType ∷ region ∷ []

abbrev free_in_region : List Bounded
free_in_region = over (codes "T") universes.Free ∷ region ∷ []

abbrev takes : Bytes → Meaning → Typed
takes name of = record { name = name; of = of }

abbrev signed : List Bounded → List Typed → Meaning → Option Callable
signed generics its_parameters result =
    Some (record { generics = generics; parameters = its_parameters; result = result; class = None })

-- what a shipped function is called with and gives: a shipped call that is no function has nothing here
abbrev pub signature : ShippedCall → Option Callable
signature prim.SurrenderRoot = signed [] (takes (codes "root") root ∷ []) unit
signature prim.Abort = signed [] (takes (codes "message") text ∷ []) unit
signature prim.SpanLength = signed [] (takes (codes "span") text ∷ []) (integer kinds.Index)
signature prim.Swap =
    signed item_in_region (takes (codes "ref") (written_here item) ∷ takes (codes "value") item ∷ []) item
signature prim.MakeBox = signed any_item (takes (codes "value") item ∷ []) (box_of item)
signature prim.Unbox = signed any_item (takes (codes "box") (box_of item) ∷ []) item
signature prim.BoxGet = signed item_in_region (takes (codes "ref") (read_here (box_of item)) ∷ []) (read_here item)
signature prim.BoxGetMut =
    signed item_in_region (takes (codes "ref") (written_here (box_of item)) ∷ []) (written_here item)
signature prim.MakeEmpty = signed any_item [] (buffer_of item)
signature prim.DestroyEmpty = signed any_item (takes (codes "buffer") (buffer_of item) ∷ []) unit
signature prim.Length =
    signed item_in_region (takes (codes "ref") (read_here (buffer_of item)) ∷ []) (integer kinds.Index)
signature prim.InsertBack =
    signed item_in_region
    (takes (codes "ref") (written_here (buffer_of item)) ∷ takes (codes "value") item ∷ []) unit
signature prim.RemoveBack =
    signed item_in_region (takes (codes "ref") (written_here (buffer_of item)) ∷ []) item
signature prim.Nth =
    signed free_in_region
    (takes (codes "ref") (read_here (buffer_of item)) ∷ takes (codes "index") (integer kinds.Index) ∷ []) item
signature prim.ReplaceNth =
    signed item_in_region
    (takes (codes "ref") (written_here (buffer_of item)) ∷ takes (codes "index") (integer kinds.Index)
    ∷ takes (codes "value") item ∷ []) item
signature prim.AcquireTerminal = signed (region ∷ []) (takes (codes "root") (written_here root) ∷ []) terminal
signature prim.ReadByte =
    signed (region ∷ []) (takes (codes "ref") (written_here terminal) ∷ []) (option_of (integer kinds.Nat8))
signature prim.WriteByte =
    signed (region ∷ [])
    (takes (codes "ref") (written_here terminal) ∷ takes (codes "byte") (integer kinds.Nat8) ∷ []) unit
signature prim.ReleaseTerminal = signed [] (takes (codes "terminal") terminal ∷ []) unit
signature other = None

-- ---- what is called

-- only a function is called as one
leads_function : (name : Bytes) (says : PlainDeclaration) (declared : Bytes) (names : List Bytes)
    → called_of name says ≡ Some (a_function declared names) → is_function says ≡ true
leads_function name (function at gs h) declared names e = refl
leads_function name (function_body at gs h block stop) declared names e = refl
leads_function name (class at n p methods) declared names e = by (find (is_method name) methods) e
  where
    by : (o : Option (Header Bytes)) → option_map (method_called p.name.name) o ≡ Some (a_function declared names)
        → is_function (class at n p methods) ≡ true
    by None e = absurd (none-some (a_function declared names) e)
    by (Some h) e = absurd cc
leads_function name (record_type at n ps u fields) declared names e = absurd cc
leads_function name (union_type at n ps u cases) declared names e = by (position (is_case name) cases) e
  where
    by : (o : Option ℕ) → option_map a_maker o ≡ Some (a_function declared names)
        → is_function (union_type at n ps u cases) ≡ true
    by None e = absurd (none-some (a_function declared names) e)
    by (Some k) e = absurd cc
leads_function name (constant at n t) declared names e = absurd (none-some (a_function declared names) e)
leads_function name (opaque_type at n ps u) declared names e = absurd (none-some (a_function declared names) e)
leads_function name (instance at gs n t) declared names e = absurd (none-some (a_function declared names) e)
leads_function name (constant_body at n t v) declared names e = absurd (none-some (a_function declared names) e)
leads_function name (instance_body at gs n t ms) declared names e = absurd (none-some (a_function declared names) e)

abbrev name_called : Option Called → Bytes
name_called (Some (a_function name names)) = name
name_called other = []

abbrev after : ℕ → List Standing → List Standing
after zero ds = ds
after (suc n) [] = []
after (suc n) (d ∷ ds) = after n ds

-- the declarations of Austral.Pervasive behind its functions: classes and instances
abbrev others : List Standing
others = after 8 (module_standing 0 own_module)

-- a module of which a call is known is shipped
names_shipped : (home declared : Bytes) (call : ShippedCall) → prim_of home declared None ≡ Some call → IsOfShipped home
names_shipped home declared call e =
    by (bytes_eq own_home home) (bytes_eq box_home home) (bytes_eq buffer_home home) (bytes_eq terminal_home home)
    refl refl refl refl e
  where
    one_of : (its : Bytes) → bytes_eq its home ≡ true → IsOfShipped its → IsOfShipped home
    one_of its is there = subst IsOfShipped ((bytes_eq-Decides its home).0 is) there

    by : (a b c d : Bool) → bytes_eq own_home home ≡ a → bytes_eq box_home home ≡ b
        → bytes_eq buffer_home home ≡ c → bytes_eq terminal_home home ≡ d
        → call_in (cond a (Some (pervasive_calls None)) (cond b (Some box_calls) (cond c (Some buffer_calls)
        (cond d (Some terminal_calls) None)))) declared ≡ Some call → IsOfShipped home
    by true b c d is e2 e3 e4 e = one_of own_home is refl
    by false true c d e1 is e3 e4 e = one_of box_home is refl
    by false false true d e1 e2 is e4 e = one_of buffer_home is refl
    by false false false true e1 e2 e3 is e = one_of terminal_home is refl
    by false false false false e1 e2 e3 e4 e = absurd (none-some call e)

module _ (rest : List ModuleParts) (at : DeclAt) (name declared : Bytes) (names : List Bytes) (called : Callable)
    (call : ShippedCall) where
  -- what is claimed of a declaration of a module of this name
  abbrev Claim : Bytes → Standing → Type 0
  Claim home d =
      called_of name d.says ≡ Some (a_function declared names) → prim_of home declared None ≡ Some call
      → declared_callable (front ++ rest) d at name d.says ≡ Some called → signature call ≡ Some called

  -- it holds of what is no function
  other_so : (home : Bytes) (x d : Standing) → x ≡ d → is_function x.says ≡ false → Claim home d
  other_so home x d same isnt leads is e =
      absurd (true≢false (sym (leads_function name d.says declared names leads)
      ∙ ap (λ (y : Standing). is_function y.says) (sym same) ∙ isnt))

  -- and of a function that has its signature
  function_so : (home own : Bytes) (its : ShippedCall) (x d : Standing) → x ≡ d
      → name_called (called_of name x.says) ≡ own → prim_of home own None ≡ Some its
      → declared_callable (front ++ rest) x at name x.says ≡ signature its
      → Claim home d
  function_so home own its x d same own_name known has = subst (Claim home) same claim
    where
      claim : Claim home x
      claim leads is e =
          ap signature
          (same_Some call its (sym is ∙ ap (λ n. prim_of home n None) (sym (ap name_called leads) ∙ own_name) ∙ known))
          ∙ sym has ∙ e

  -- ---- the declarations of the shipped modules

  own_so : (d : Standing) → Among d (module_standing 0 own_module) → Claim own_home d
  unfolding standing_from rows_from firsts names_in numbered meant
  own_so d (inl is) = other_so own_home _ d is refl
  own_so d (inr (inl is)) = other_so own_home _ d is refl
  own_so d (inr (inr (inl is))) = other_so own_home _ d is refl
  own_so d (inr (inr (inr (inl is)))) = other_so own_home _ d is refl
  own_so d (inr (inr (inr (inr (inl is))))) =
      function_so own_home (codes "surrenderRoot") prim.SurrenderRoot _ d is refl refl refl
  own_so d (inr (inr (inr (inr (inr (inl is)))))) =
      function_so own_home (codes "abort") prim.Abort _ d is refl refl refl
  own_so d (inr (inr (inr (inr (inr (inr (inl is))))))) =
      function_so own_home (codes "spanLength") prim.SpanLength _ d is refl refl refl
  own_so d (inr (inr (inr (inr (inr (inr (inr (inl is)))))))) =
      function_so own_home (codes "swap") prim.Swap _ d is refl refl refl
  own_so d (inr (inr (inr (inr (inr (inr (inr (inr m)))))))) =
      other_so own_home d d refl
      (not-true (is_function d.says) (all_among (λ (x : Standing). not (is_function x.says)) d others refl m))

  box_so : (d : Standing) → Among d (module_standing 1 box_module) → Claim box_home d
  unfolding standing_from rows_from firsts names_in numbered meant
  box_so d (inl is) = other_so box_home _ d is refl
  box_so d (inr (inl is)) = function_so box_home (codes "makeBox") prim.MakeBox _ d is refl refl refl
  box_so d (inr (inr (inl is))) = function_so box_home (codes "unbox") prim.Unbox _ d is refl refl refl
  box_so d (inr (inr (inr (inl is)))) = function_so box_home (codes "boxGet") prim.BoxGet _ d is refl refl refl
  box_so d (inr (inr (inr (inr (inl is))))) =
      function_so box_home (codes "boxGetMut") prim.BoxGetMut _ d is refl refl refl
  box_so d (inr (inr (inr (inr (inr m))))) = absurd m

  buffer_so : (d : Standing) → Among d (module_standing 2 buffer_module) → Claim buffer_home d
  unfolding standing_from rows_from firsts names_in numbered meant
  buffer_so d (inl is) = other_so buffer_home _ d is refl
  buffer_so d (inr (inl is)) = function_so buffer_home (codes "makeEmpty") prim.MakeEmpty _ d is refl refl refl
  buffer_so d (inr (inr (inl is))) =
      function_so buffer_home (codes "destroyEmpty") prim.DestroyEmpty _ d is refl refl refl
  buffer_so d (inr (inr (inr (inl is)))) =
      function_so buffer_home (codes "length") prim.Length _ d is refl refl refl
  buffer_so d (inr (inr (inr (inr (inl is))))) =
      function_so buffer_home (codes "insertBack") prim.InsertBack _ d is refl refl refl
  buffer_so d (inr (inr (inr (inr (inr (inl is)))))) =
      function_so buffer_home (codes "removeBack") prim.RemoveBack _ d is refl refl refl
  buffer_so d (inr (inr (inr (inr (inr (inr (inl is))))))) =
      function_so buffer_home (codes "nth") prim.Nth _ d is refl refl refl
  buffer_so d (inr (inr (inr (inr (inr (inr (inr (inl is)))))))) =
      function_so buffer_home (codes "replaceNth") prim.ReplaceNth _ d is refl refl refl
  buffer_so d (inr (inr (inr (inr (inr (inr (inr (inr m)))))))) = absurd m

  terminal_so : (d : Standing) → Among d (module_standing 3 terminal_module) → Claim terminal_home d
  unfolding standing_from rows_from firsts names_in numbered meant
  terminal_so d (inl is) = other_so terminal_home _ d is refl
  terminal_so d (inr (inl is)) =
      function_so terminal_home (codes "acquireTerminal") prim.AcquireTerminal _ d is refl refl refl
  terminal_so d (inr (inr (inl is))) =
      function_so terminal_home (codes "readByte") prim.ReadByte _ d is refl refl refl
  terminal_so d (inr (inr (inr (inl is)))) =
      function_so terminal_home (codes "writeByte") prim.WriteByte _ d is refl refl refl
  terminal_so d (inr (inr (inr (inr (inl is))))) =
      function_so terminal_home (codes "releaseTerminal") prim.ReleaseTerminal _ d is refl refl refl
  terminal_so d (inr (inr (inr (inr (inr m))))) = absurd m

  -- ---- by the place of the module

  abbrev Premises : List ModuleParts → ℕ → Standing → Type 0
  Premises program place d =
      standing_in place at.decl (slice_get program place) ≡ Some d
      × (called_of name d.says ≡ Some (a_function declared names))
      × (prim_of (module_name program place) declared None ≡ Some call)
      × (declared_callable program d at name d.says ≡ Some called)

  by_place : ((m : ModuleParts) → Among m rest → IsOfShipped m.name → ⊥) → (place : ℕ) (d : Standing)
      → Premises (front ++ rest) place d → signature call ≡ Some called
  by_place apart zero d (stands, leads, is, e) =
      own_so d (among_get (module_standing 0 own_module) at.decl d stands) leads is e
  by_place apart (suc zero) d (stands, leads, is, e) =
      box_so d (among_get (module_standing 1 box_module) at.decl d stands) leads is e
  by_place apart (suc (suc zero)) d (stands, leads, is, e) =
      buffer_so d (among_get (module_standing 2 buffer_module) at.decl d stands) leads is e
  by_place apart (suc (suc (suc zero))) d (stands, leads, is, e) =
      terminal_so d (among_get (module_standing 3 terminal_module) at.decl d stands) leads is e
  by_place apart (suc (suc (suc (suc k)))) d (stands, leads, is, e) = by (slice_get rest k) refl stands is
    where
      by : (o : Option ModuleParts) → slice_get rest k ≡ o
          → standing_in (suc (suc (suc (suc k)))) at.decl o ≡ Some d
          → prim_of (unwrap_or (option_map (λ (m : ModuleParts). m.name) o) []) declared None ≡ Some call
          → signature call ≡ Some called
      by None here stands is = absurd (none-some d stands)
      by (Some m) here stands is =
          absurd (apart m (among_get rest k m here) (names_shipped m.name declared call is))

-- a shipped function that is called has its signature
pub signed_so : (program : List ModuleParts) → HasFront program → (target : Target) (d : Standing) (called : Callable)
    (declared : Bytes) (names : List Bytes) (call : ShippedCall) → standing_at program target.at ≡ Some d
    → called_of target.name d.says ≡ Some (a_function declared names)
    → prim_of (module_name program target.at.«module») declared None ≡ Some call
    → declared_callable program d target.at target.name d.says ≡ Some called → signature call ≡ Some called
signed_so program has target d called declared names call found leads is e =
    by_place has.rest target.at target.name declared names called call has.others target.at.«module» d
    (subst (λ p. Premises has.rest target.at target.name declared names called call p target.at.«module» d) has.whole
    (found, leads, is, e))
