-- A body, a constant and a declaration are refused for just what their first fault tells.
use Rattle.std.proofs.Common.{◌≡◌, ◌⊎◌, inl, inr, ℕ, Bool, true, false, List, [], ◌∷◌, refl, sym, ap, subst}
use Rattle.std.proofs.Common.{◌∙◌, Option, Some, None, map, get_or}
use Rattle.std.specs.Prelude.{Ok, Err}
use Rattle.au_base.specs.declared.places.Pos.{Pos}
use Rattle.au_syntax.specs.declared.modules.Part.{Part}
use Rattle.au_syntax.specs.Modules.{Constrained, Header, constant, opaque_type, record_type, union_type}
use Rattle.au_syntax.specs.Modules.{function, class, instance, constant_body, function_body, instance_body}
use Rattle.au_syntax.specs.Names.{Placed}
use Rattle.au_syntax.specs.Plain.{Bytes, PlainDeclaration, PlainExpression, PlainMethod, PlainStatements}
use Rattle.au_syntax.specs.Types.{Labelled, WrittenType}
use Rattle.au_types.specs.Types.{Meaning}
use Rattle.au_judged_types.specs.Reasons.{means}
use Rattle.au_modules.specs.Programs.{Entry, ModuleParts}
use Rattle.au_typing.specs.Scopes.{Outside, Scope}
use Rattle.au_typing.specs.Faults.{Fault, Noting, ◌>>=◌, check, why, reason_why, shape, assignable_wanted, falls_out}
use Rattle.au_typing.specs.Lookups.{outcome_noted, written_means, written_type}
use Rattle.au_typing.specs.Notes.{NotedExpression}
use Rattle.au_typing.specs.Search.{note}
use Rattle.au_typing.proofs.SoundParts.{outcome_sound}
use Rattle.au_typing.proofs.Steps.{bind_found, check_found}
use Rattle.au_typing.specs.Bodies.{GoodBody, body_scope, generics_in, outer_scope, with_parameters, with_result}
use Rattle.au_typing.specs.Derivations.{Derives, GoodDeclaration}
use Rattle.au_typing.specs.DerivationFaults.{Judged, ◌then◌, StatementFault, fault_at, placed, refused}
use Rattle.au_typing.specs.InScope.{fixed_variable, with_variable}
use Rattle.au_typing.specs.Parts.{is_literal}
use Rattle.au_typing.specs.ProgramSearch.{judge_end, note_body, note_constant, note_declaration, note_methods}
use Rattle.au_typing.specs.Returns.{block_returns}
use Rattle.au_typing.specs.DerivationSearch.{note_block}
use Rattle.au_typing.specs.Trees.{NotedDeclaration, NotedMethod, NotedStatements, erase_block, erase_declaration}
use Rattle.au_typing.proofs.StepLemmas.{placed_gave, then_gave}
use Rattle.au_laws.specs.Clauses.{Clause, TellsFirst}
use Rattle.au_laws.specs.FirstInPrograms.{BodyFault, ConstantFault, DeclarationFault, DeclarationNoted}
use Rattle.au_laws.specs.FirstInPrograms.{FirstAmong, MethodFault, MethodNoted, at_its_end, in_its_block}
use Rattle.au_laws.specs.FirstInPrograms.{in_its_header, its_type, its_value, no_literal, of_a_constant}
use Rattle.au_laws.specs.FirstInPrograms.{of_a_function, of_an_instance, of_header, of_parameters}
use Rattle.au_laws.specs.StatementClauses.{formed}
use Rattle.au_laws.proofs.BlockLemmas.{block_given, block_tells, fault_in_fails, only_then, own_fails}
use Rattle.au_laws.proofs.BlockLemmas.{own_found, placed_failed, then_fails}
use Rattle.au_laws.proofs.BlockLemmas.{then_found}
use Rattle.au_laws.proofs.ClauseLemmas.{Tells, bind_failed, fails_first, fault_of, first_fails, in_turn}
use Rattle.au_laws.proofs.PassLemmas.{same_fault}
use Rattle.au_laws.proofs.StatementClauseLemmas.{formed_tells}
use Rattle.au_laws.proofs.TellLemmas.{fault_fails, not_meant, tells}
use Rattle.au_typing.proofs.SoundLemmas.{block_sound}
use Rattle.au_typing.proofs.RefusalLemmas.{fault_is, then_failed}
use Rattle.au_typing.proofs.OrderLemmas.{bind_fails}
use Rattle.au_laws.specs.FirstInStatements.{BlockNoted}

-- ---- headers

parameters_tell : {B : Type 0} (ps : List (Labelled Bytes)) (sc : Scope) (next : Scope → Noting B)
    (cs : Scope → List Clause) → ((s : Scope) → Tells (next s) (cs s))
    → Tells (with_parameters ps sc >>= next) (of_parameters ps sc cs)
parameters_tell [] sc next cs h = h sc
parameters_tell (p ∷ more) sc next cs h =
    let inner = λ (of : Meaning). with_variable (fixed_variable p.name.name of) sc in
    ap fault_of (in_turn (written_type sc p.of) (λ of. with_parameters more (inner of)) next)
    ∙ formed_tells (written_means sc p.of) (λ of. with_parameters more (inner of) >>= next)
    (λ of. of_parameters more (inner of) cs) (λ of. parameters_tell more (inner of) next cs h)

header_tells : (outside : Outside) (generics : List (Constrained Bytes)) (header : Header Bytes)
    → Tells (body_scope outside generics header) (of_header outside generics header)
header_tells outside generics header =
    parameters_tell header.parameters (outer_scope outside (generics_in outside generics))
    (λ sc. with_result header.result sc) (λ sc. formed (written_means sc header.result) (λ of. []))
    (λ sc. formed_tells (written_means sc header.result) (λ of. Ok (record sc { result = of })) (λ of. [])
    (λ of. refl))

module _ (outside : Outside) where
  -- ---- bodies

  end_failed : (b : Bool) (stop : Pos) (f : StatementFault) → judge_end b stop ≡ Err f
      → (b ≡ false) × (f ≡ refused stop falls_out)
  end_failed false stop f h = (refl, sym (fault_is (refused stop falls_out) f h))
  end_failed true stop f h = absurd cc

  pub body_fails : (at : Pos) (generics : List (Constrained Bytes)) (header : Header Bytes)
      (body : PlainStatements) (stop : Pos) (f : StatementFault)
      → BodyFault outside at generics header body stop f
      → note_body outside at generics header body stop ≡ Err f
  body_fails at generics header body stop f (in_its_header a gs h b e g told) =
      own_fails a
      (λ sc. note_block b sc then λ noted. judge_end (block_returns b) e then λ ends. Ok noted)
      (first_fails (body_scope outside gs h) (of_header outside gs h) g (header_tells outside gs h) told)
  body_fails at generics header body stop f (in_its_block a gs h b e sc g scope fault) =
      own_found a
      (λ c. note_block b c then λ noted. judge_end (block_returns b) e then λ ends. Ok noted) scope
      ∙ then_fails (λ noted. judge_end (block_returns b) e then λ ends. Ok noted) (fault_in_fails b sc g fault)
  body_fails at generics header body stop f (at_its_end a gs h b e sc n scope noted falls) =
      own_found a
      (λ c. note_block b c then λ x. judge_end (block_returns b) e then λ ends. Ok x) scope
      ∙ (then_found (λ x. judge_end (block_returns b) e then λ ends. Ok x) (block_given b sc n noted)
      ∙ then_fails (λ ends. Ok n) (ap (λ r. judge_end r e) falls))

  behind_block : (at : Pos) (generics : List (Constrained Bytes)) (header : Header Bytes)
      (body : PlainStatements) (stop : Pos) (sc : Scope) (f : StatementFault)
      → body_scope outside generics header ≡ Ok sc
      → (note_block body sc ≡ Err f)
      ⊎ ((b : NotedStatements) × (note_block body sc ≡ Ok b)
      × ((judge_end (block_returns body) stop then λ ends. Ok b) ≡ Err f))
      → BodyFault outside at generics header body stop f
  behind_block at generics header body stop sc f scope (inl failed) =
      in_its_block at generics header body stop sc f scope (block_tells body sc f failed)
  behind_block at generics header body stop sc f scope (inr (b, noted, failed)) =
      let k = end_failed (block_returns body) stop f
      (only_then (judge_end (block_returns body) stop) (λ ends. b) f failed) in
      subst (λ g. BodyFault outside at generics header body stop g) (sym k.1)
      (at_its_end at generics header body stop sc b scope (block_sound body sc b noted) k.0)

  behind_header : (at : Pos) (generics : List (Constrained Bytes)) (header : Header Bytes)
      (body : PlainStatements) (stop : Pos) (f : StatementFault)
      → (placed at (body_scope outside generics header) ≡ Err f)
      ⊎ ((sc : Scope) × (placed at (body_scope outside generics header) ≡ Ok sc)
      × ((note_block body sc then λ noted. judge_end (block_returns body) stop then λ ends. Ok noted) ≡ Err f))
      → BodyFault outside at generics header body stop f
  behind_header at generics header body stop f (inl failed) =
      let k = placed_failed at (body_scope outside generics header) f failed in
      subst (λ g. BodyFault outside at generics header body stop g) (sym k.2)
      (in_its_header at generics header body stop k.0
      (fails_first (body_scope outside generics header) (of_header outside generics header) k.0
      (header_tells outside generics header) k.1))
  behind_header at generics header body stop f (inr (sc, scope, failed)) =
      behind_block at generics header body stop sc f
      (placed_gave at (body_scope outside generics header) sc scope)
      (then_failed (note_block body sc) (λ noted. judge_end (block_returns body) stop then λ ends. Ok noted) f
      failed)

  pub body_tells : (at : Pos) (generics : List (Constrained Bytes)) (header : Header Bytes)
      (body : PlainStatements) (stop : Pos) (f : StatementFault)
      → note_body outside at generics header body stop ≡ Err f
      → BodyFault outside at generics header body stop f
  body_tells at generics header body stop f h =
      behind_header at generics header body stop f
      (then_failed (placed at (body_scope outside generics header))
      (λ sc. note_block body sc then λ noted. judge_end (block_returns body) stop then λ ends. Ok noted) f h)

  -- ---- constants

  pub constant_fails : (t : WrittenType) (e : PlainExpression) (f : Fault) → ConstantFault outside t e f
      → note_constant outside t e ≡ Err f
  constant_fails t e f (its_type u d reason is) =
      bind_fails
      (λ (of : Meaning). check (is_literal d) (shape assignable_wanted) (note (outer_scope outside []) d (Some of)))
      (ap outcome_noted is)
  constant_fails t e f (no_literal u d of is not) =
      bind_found
      (λ (w : Meaning). check (is_literal d) (shape assignable_wanted) (note (outer_scope outside []) d (Some w)))
      (ap outcome_noted is)
      ∙ ap (λ b. check b (shape assignable_wanted) (note (outer_scope outside []) d (Some of))) not
  constant_fails t e f (its_value u d of g is literal first) =
      bind_found
      (λ (w : Meaning). check (is_literal d) (shape assignable_wanted) (note (outer_scope outside []) d (Some w)))
      (ap outcome_noted is)
      ∙ (check_found (shape assignable_wanted) (note (outer_scope outside []) d (Some of)) literal
      ∙ fault_fails (outer_scope outside []) d (Some of) g first)

  value_tells : (b : Bool) (t : WrittenType) (e : PlainExpression) (of : Meaning) (f : Fault)
      → is_literal e ≡ b → written_means (outer_scope outside []) t ≡ means of
      → check b (shape assignable_wanted) (note (outer_scope outside []) e (Some of)) ≡ Err f
      → ConstantFault outside t e f
  value_tells true t e of f literal is h =
      its_value t e of f is literal (tells (outer_scope outside []) e (Some of) f h)
  value_tells false t e of f literal is h =
      subst (λ g. ConstantFault outside t e g) (same_fault (why (shape assignable_wanted)) f h)
      (no_literal t e of is literal)

  by_type : (t : WrittenType) (e : PlainExpression) (f : Fault)
      → (written_type (outer_scope outside []) t ≡ Err f)
      ⊎ ((of : Meaning) × (written_type (outer_scope outside []) t ≡ Ok of)
      × (check (is_literal e) (shape assignable_wanted) (note (outer_scope outside []) e (Some of)) ≡ Err f))
      → ConstantFault outside t e f
  by_type t e f (inl failed) =
      let k = not_meant (written_means (outer_scope outside []) t) f failed in
      subst (λ g. ConstantFault outside t e g) (sym k.2) (its_type t e k.0 k.1)
  by_type t e f (inr (of, meant, failed)) =
      value_tells (is_literal e) t e of f refl
      (outcome_sound (written_means (outer_scope outside []) t) of meant) failed

  pub constant_tells : (t : WrittenType) (e : PlainExpression) (f : Fault) → note_constant outside t e ≡ Err f
      → ConstantFault outside t e f
  constant_tells t e f h =
      by_type t e f
      (bind_failed (written_type (outer_scope outside []) t)
      (λ of. check (is_literal e) (shape assignable_wanted) (note (outer_scope outside []) e (Some of))) f h)
