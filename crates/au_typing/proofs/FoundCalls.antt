-- Good calls are what the search gives.
use Rattle.std.proofs.Common.{◌≡◌, Bool, true, false, List, [], ◌∷◌, sym, ap, ◌∙◌, Option, Some, None, Ok}
use Rattle.au_syntax.specs.Plain.{Bytes}
use Rattle.au_types.specs.Types.{Meaning, unit, truth, integer, text, parameter, named, reads, writes}
use Rattle.au_matching.specs.Bindings.{Bindings}
use Rattle.au_matching.specs.Fixed.{fixed}
use Rattle.au_matching.specs.Substituted.{substituted}
use Rattle.au_judged_types.specs.Bounds.{parameters}
use Rattle.au_typing.specs.Scopes.{Callable, Scope, Typed}
use Rattle.au_typing.specs.Bare.{is_bare}
use Rattle.au_typing.specs.Calls.{begun, first_lacking, first_misfit, types_of_call, wanted_of, FirstStep}
use Rattle.au_typing.specs.Calls.{GoodCall, Passes, SecondStep, Taken, TakenBare}
use Rattle.au_typing.specs.Faults.{Noting, ◌>>=◌, Why, known_or, unknown, different, unfixed}
use Rattle.au_typing.specs.Good.{shown}
use Rattle.au_typing.specs.Limits.{within}
use Rattle.au_typing.specs.Notes.{Mode, Note, NotedExpression, mode_of, note_of, type_of}
use Rattle.au_typing.specs.Operands.{Noter}
use Rattle.au_typing.specs.Rules.{int32}
use Rattle.au_typing.specs.SearchCalls.{Half, Operand, beside, call_note, call_noted, called_note, first}
use Rattle.au_typing.specs.SearchCalls.{first_step, half_of, lacks, misfit, put_before, result_differs}
use Rattle.au_typing.specs.SearchCalls.{second, second_step, taken, taken_as, taken_bare, unless_why}
use Rattle.au_typing.specs.SearchCalls.{with_arguments}
use Rattle.au_typing.proofs.Steps.{bind_found, known_found, unless_found, within_found}

-- what notes an argument gives it
abbrev Finds : Noter → NotedExpression → Type 0
Finds e a = e (mode_of a) ≡ Ok a

-- what is to be noted gives these arguments
abbrev pub AllFind : List Operand → List NotedExpression → Type 0
AllFind [] [] = Unit {0}
AllFind (one ∷ rest) (a ∷ args) = (one.bare ≡ is_bare a) × (one.noter (mode_of a) ≡ Ok a) × AllFind rest args
AllFind [] (a ∷ args) = ⊥
AllFind (one ∷ rest) [] = ⊥

-- what the first pass leaves of an argument
abbrev half : Bool → NotedExpression → Half
half true a = None
half false a = Some a

abbrev halves : List NotedExpression → List Half
halves [] = []
halves (a ∷ args) = half (is_bare a) a ∷ halves args

-- ---- one argument

beside_found : (e : Noter) (mode : Mode) (a : NotedExpression) (s q : Bindings) → Finds e a →
    mode_of a ≡ mode → q ≡ s → (e mode >>= beside s) ≡ Ok (a, q)
beside_found e mode a s q f m h =
    bind_found (beside s) (ap e (sym m) ∙ f) ∙ ap (λ (r : Bindings). Ok (a, r)) (sym h)

taken_found : (b : Bool) (e : Noter) (a : NotedExpression) (p : Meaning) (s q : Bindings) → Finds e a →
    Taken b p (note_of a) s q → taken b e p s ≡ Ok (a, q)
taken_found true e a p s q f h = beside_found e (Some (substituted s p)) a s q f h.0 h.1
taken_found false e a p s q f h =
    bind_found (λ (x : NotedExpression). taken_as p (type_of x) s x) (ap e (sym h.0) ∙ f)
    ∙ bind_found (λ (r : Bindings). Ok (a, r)) (known_found (different (substituted s p) (type_of a)) h.1)

taken_bare_found : (b : Bool) (e : Noter) (a : NotedExpression) (p : Meaning) (s q : Bindings) → Finds e a →
    TakenBare b p (note_of a) s q → taken_bare b e p s ≡ Ok (a, q)
taken_bare_found true e a p s q f h = beside_found e (Some (substituted s p)) a s q f h.0 h.1
taken_bare_found false e a (parameter name) s q f h =
    bind_found (taken_as (parameter name) int32 s) (ap e (sym h.0) ∙ f)
    ∙ bind_found (λ (r : Bindings). Ok (a, r)) (known_found (different (substituted s (parameter name)) int32) h.1)
taken_bare_found false e a unit s q f h = absurd h
taken_bare_found false e a truth s q f h = absurd h
taken_bare_found false e a (integer kind) s q f h = absurd h
taken_bare_found false e a text s q f h = absurd h
taken_bare_found false e a (named at args) s q f h = absurd h
taken_bare_found false e a (reads t region) s q f h = absurd h
taken_bare_found false e a (writes t region) s q f h = absurd h

first_step_found : (x : Bool) (e : Noter) (a : NotedExpression) (p : Meaning) (s q : Bindings) → Finds e a →
    FirstStep x p (note_of a) s q → first_step x e p s ≡ Ok (half x a, q)
first_step_found true e a p s q f h = ap (λ (r : Bindings). Ok (None, r)) (sym h)
first_step_found false e a p s q f h = bind_found half_of (taken_found (fixed s p) e a p s q f h)

second_step_found : (x : Bool) (e : Noter) (a : NotedExpression) (p : Meaning) (s q : Bindings) → Finds e a →
    SecondStep x p (note_of a) s q → second_step (half x a) e p s ≡ Ok (a, q)
second_step_found true e a p s q f h = taken_bare_found (fixed s p) e a p s q f h
second_step_found false e a p s q f h = ap (λ (r : Bindings). Ok (a, r)) (sym h)

-- ---- the passes

first_found : (ops : List Operand) (args : List NotedExpression) (ps : List Meaning) (s r : Bindings) →
    AllFind ops args → Passes FirstStep ps (shown args) s r → first ops ps s ≡ Ok (halves args, r)
first_found [] [] [] s r f h = ap (λ (q : Bindings). Ok ([], q)) (sym h)
first_found (one ∷ rest) (a ∷ args) (p ∷ ps) s r f h =
    ap (λ (x : Bool). first_step x one.noter p s >>= λ (y : Half × Bindings). first rest ps y.1 >>= put_before y.0) f.0
    ∙ (bind_found (λ (y : Half × Bindings). first rest ps y.1 >>= put_before y.0)
    (first_step_found (is_bare a) one.noter a p s h.0 f.1 h.1)
    ∙ bind_found (put_before (half (is_bare a) a)) (first_found rest args ps h.0 r f.2 h.2))
first_found [] [] (p ∷ ps) s r f h = absurd h
first_found [] (a ∷ args) ps s r f h = absurd f
first_found (one ∷ rest) [] ps s r f h = absurd f
first_found (one ∷ rest) (a ∷ args) [] s r f h = absurd h

second_found : (ops : List Operand) (args : List NotedExpression) (ps : List Meaning) (s r : Bindings) →
    AllFind ops args → Passes SecondStep ps (shown args) s r → second ops (halves args) ps s ≡ Ok (args, r)
second_found [] [] [] s r f h = ap (λ (q : Bindings). Ok ([], q)) (sym h)
second_found (one ∷ rest) (a ∷ args) (p ∷ ps) s r f h =
    bind_found (λ (y : NotedExpression × Bindings). second rest (halves args) ps y.1 >>= put_before y.0)
    (second_step_found (is_bare a) one.noter a p s h.0 f.1 h.1)
    ∙ bind_found (put_before a) (second_found rest args ps h.0 r f.2 h.2)
second_found [] [] (p ∷ ps) s r f h = absurd h
second_found [] (a ∷ args) ps s r f h = absurd f
second_found (one ∷ rest) [] ps s r f h = absurd f
second_found (one ∷ rest) (a ∷ args) [] s r f h = absurd h

-- ---- the whole call

module _ (scope : Scope) where
  note_found : (n : Note) (name : Bytes) (takes : List Typed → Option (List Meaning))
      (args : List NotedExpression) (g : GoodCall scope n name takes (shown args)) →
      called_note scope n.mode g.called g.ends ≡ Ok n
  note_found n name takes args g =
      unless_found unfixed limited g.all_fixed
      ∙ (within_found (types_of_call n.mode g.called g.ends) fit g.limited
      ∙ (unless_found (misfit g.ends) hold g.all_fit
      ∙ (unless_found lacks (Ok (call_note n.mode g.called g.ends)) g.all_hold
      ∙ ap (λ (m : Note). Ok m) (sym g.is_noted))))
    where
      hold : Noting Note
      hold = unless_why lacks (first_lacking scope g.ends (wanted_of g.called)) (Ok (call_note n.mode g.called g.ends))

      fit : Noting Note
      fit = unless_why (misfit g.ends) (first_misfit scope g.ends (parameters g.called.generics)) hold

      limited : Noting Note
      limited = within (types_of_call n.mode g.called g.ends) fit

  pub call_found : (n : Note) (name : Bytes) (takes : List Typed → Option (List Meaning))
      (mistaken : List Typed → Why) (ops : List Operand) (args : List NotedExpression) → AllFind ops args →
      GoodCall scope n name takes (shown args) → call_noted scope name takes mistaken n.mode ops ≡ Ok (n, args)
  call_found n name takes mistaken ops args f g =
      bind_found (λ (called : Callable). known_or (mistaken called.parameters) (takes called.parameters) >>=
      λ (types : List Meaning). known_or (result_differs n.mode called.result) (begun n.mode called.result)
      >>= λ (s : Bindings). first ops types s >>= λ (z : List Half × Bindings). second ops z.0 types z.1 >>=
      with_arguments scope n.mode called) (known_found (unknown name) g.is_called)
      ∙ (bind_found (λ (types : List Meaning). known_or (result_differs n.mode g.called.result)
      (begun n.mode g.called.result) >>= λ (s : Bindings). first ops types s >>=
      λ (z : List Half × Bindings). second ops z.0 types z.1 >>= with_arguments scope n.mode g.called)
      (known_found (mistaken g.called.parameters) g.one_each)
      ∙ (bind_found (λ (s : Bindings). first ops g.types s >>= λ (z : List Half × Bindings). second ops z.0
      g.types z.1 >>= with_arguments scope n.mode g.called)
      (known_found (result_differs n.mode g.called.result) g.from_result)
      ∙ (bind_found (λ (z : List Half × Bindings). second ops z.0 g.types z.1 >>=
      with_arguments scope n.mode g.called) (first_found ops args g.types g.begins g.goes_on f g.not_bare)
      ∙ (bind_found (with_arguments scope n.mode g.called) (second_found ops args g.types g.goes_on g.ends f g.bare)
      ∙ bind_found (λ (m : Note). Ok (m, args)) (note_found n name takes args g)))))
