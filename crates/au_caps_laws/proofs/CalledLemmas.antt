-- What the calls of a block lead to, call by call.
use Rattle.std.proofs.Common.{List, sym, subst}
use Rattle.std.specs.Prelude.{Contains}
use Rattle.std.specs.List.{flat_map}
use Rattle.au_syntax.specs.Plain.{Bytes}
use Rattle.au_names.proofs.AmongLemmas.{among, among-flat_map, among-flat_map_from, contains}
use Rattle.au_typing.specs.Notes.{Note}
use Rattle.au_typing.specs.Trees.{NotedStatements}
use Rattle.au_closed_trees.specs.Calls.{calls_in_block}
use Rattle.au_closing_laws.specs.Targets.{Call, calls_listed}
use Rattle.au_closing_laws.proofs.CallLemmas.{in_block}

module _ {A : Type 0} (leads : Note → Unit {0} → Bytes → List A) (block : NotedStatements) (x : A) where
  abbrev at_call : Call → List A
  at_call one = leads one.0 tt one.1

  -- what they lead to, one of them leads to
  pub from_call : Contains (calls_in_block leads block) x
      → (call : Call) × Contains (calls_listed block) call × Contains (leads call.0 tt call.1) x
  from_call c =
      let its = among-flat_map at_call (calls_listed block) x
      (among (flat_map at_call (calls_listed block)) x
      (subst (λ (l : List A). Contains l x) (in_block leads block) c)) in
      (its.0, contains (calls_listed block) its.0 its.1, contains (at_call its.0) x its.2)

  -- and what one of them leads to they lead to
  pub of_call : (call : Call) → Contains (calls_listed block) call → Contains (leads call.0 tt call.1) x
      → Contains (calls_in_block leads block) x
  of_call call listed c =
      subst (λ (l : List A). Contains l x) (sym (in_block leads block))
      (contains (flat_map at_call (calls_listed block)) x
      (among-flat_map_from at_call (calls_listed block) call x (among (calls_listed block) call listed)
      (among (at_call call) x c)))
