use Rattle.std.proofs.Common.{◌++◌, ◌∷◌, [], List, map, take, refl, sym, ap, ◌∙◌, append_assoc}
use Rattle.std.specs.List.{fold}
use Rattle.std.proofs.lemmas.List.{append-nil}
use Rattle.std.proofs.lemmas.List.Sums.{fold_push}
use Rattle.au_syntax.specs.contracts.parsed.ParsedPhase.TheImpl.{ghosts as parsed}
use Rattle.au_syntax.specs.Plain.{plain_declaration}
use Rattle.au_syntax.specs.Views.{declaration}
use Rattle.au_rules.specs.Marks.{marks}
use Rattle.au_rules.specs.Outside.{is_outside_of}
use Rattle.au_rules.specs.Scopes.{after_all, doubles_in, first_in}
use Rattle.au_rules.proofs.ListLemmas.{listed_next}
use Rattle.au_rules.proofs.ScopeLemmas.{doubles_nothing, doubles_push}
use Rattle.au_rules.proofs.finding.judge_declarations.Goals as goal

pub loop-decl-init : goal.loop-decl-init
loop-decl-init c =
    let start = c.args.list.now.items in (
      sym (ap (λ r. start ++ r) (doubles_nothing (is_outside_of c.args.here.now) c.args.scopes.now)
          ∙ append-nil start),
      refl,
    )

pub loop-decl-preserved : goal.loop-decl-preserved
loop-decl-preserved c =
    let foreign = is_outside_of c.args.here.now in
    let s = c.args.scopes.now in
    let start = c.args.list.now.items in
    let items = c.deref-decl-items.result.now in
    let i = c.loop-decl.decl-index in
    let item = c.decl-item.result in
    let before = c.loop-decl.invariant in
    let said = λ (xs : List _). map (marks c.args.part)
    (map (plain_declaration parsed.name_bytes) (map (declaration parsed) xs)) in
    let one = marks c.args.part (plain_declaration parsed.name_bytes (declaration parsed item)) in
    let next = listed_next (declaration parsed) (plain_declaration parsed.name_bytes) (marks c.args.part)
    items i item c.loop-decl-test.true c.decl-item.is in
    let found = c.in_ok-found.ensures.found ∙ ap (λ t. first_in foreign t one) before.1 in (
      c.in_ok-push.ensures.items
          ∙ ap (λ r. r ++ c.in_ok-found.found ∷ []) before.0
          ∙ ap (λ x. (start ++ doubles_in foreign s (said (take i items))) ++ x ∷ []) found
          ∙ append_assoc start (doubles_in foreign s (said (take i items)))
          (first_in foreign (fold after_all s (said (take i items))) one ∷ [])
          ∙ ap (λ r. start ++ r) (sym (doubles_push foreign s (said (take i items)) one))
          ∙ ap (λ ds. start ++ doubles_in foreign s ds) (sym next),
      c.in_ok-found.ensures.noted
          ∙ ap (λ t. after_all t one) before.1
          ∙ sym (fold_push after_all s (said (take i items)) one)
          ∙ ap (fold after_all s) (sym next),
    )
