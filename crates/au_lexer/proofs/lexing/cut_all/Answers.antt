-- Each piece that is found cuts the file further, and where none is the file is refused.
use Rattle.std.proofs.Common.{◌≡◌, ◌≤◌, ◌+◌, ◌-◌, ◌++◌, true, Err, length, take, drop, ap, ◌∙◌, sym, subst}
use Rattle.std.proofs.Common.{arith, length-drop}
use Rattle.std.proofs.lemmas.List.{take_rest, length-take-le}
use Rattle.au_base.specs.declared.places.Pos.{Pos}
use Rattle.au_lexer.specs.declared.lexing.LexFault.TheVariants as fault
use Rattle.au_base.specs.Places.{place_after}
use Rattle.au_lexer.specs.Passing.{is_within, IsWithinLimits}
use Rattle.au_lexer.specs.Reading.{FindsPiece, IsLongest}
use Rattle.au_lexer.proofs.CutLemmas.{HasCut, has_more, place_bounds, longest_within, limit_so}
use Rattle.au_lexer.proofs.PassingLemmas.{tokens_within}
use Rattle.au_lexer.proofs.lexing.cut_all.Goals as goal

pub after-at-requires-clause-columns : goal.after-at-requires-clause-columns
after-at-requires-clause-columns c =
    let bytes = c.args.bytes.now in
    let done = c.loop-done.done in
    let size = c.in-Ok.field-0.size in
    let rest = take_rest bytes done in
    let longest = subst (λ r. IsLongest r size c.in-Ok.field-0.what) rest c.in-Ok.ensures.0 in
    let fits = longest_within (drop done bytes) size c.in-Ok.field-0.what longest in
    let place : c.loop-done.at.column ≤ length (take done bytes) + 1 =
    subst (λ (p : Pos). p.column ≤ length (take done bytes) + 1) (sym c.loop-done.invariant.place)
    (place_bounds c.args.file (take done bytes)).1 in
    let piece : length (take size (take (length bytes - done) (drop done bytes))) ≡ size =
    ap (λ r. length (take size r)) rest ∙ length-take-le size (drop done bytes) fits in
    omega (arith, length-take-le done bytes c.loop-done.invariant.within, length-drop done bytes, c.requires)

pub loop-done-preserved : goal.loop-done-preserved
loop-done-preserved c =
    let bytes = c.args.bytes.now in
    let done = c.loop-done.done in
    let size = c.in-Ok.field-0.size in
    let what = c.in-Ok.field-0.what in
    let rest = take_rest bytes done in
    let longest = subst (λ r. IsLongest r size what) rest c.in-Ok.ensures.0 in
    let place = c.after-at.ensures.place c.args.file (take done bytes) c.loop-done.invariant.place
    ∙ ap (λ r. place_after c.args.file (take done bytes ++ take size r)) rest in
    subst (HasCut c.args.file bytes (done + size) c.after-at.result) (sym c.in_ok-add_token-in-Ok.ensures.ok)
    (has_more c.args.file bytes done c.loop-done.at c.after-at.result c.loop-done.tokens.items size what
    c.loop-done.invariant longest (subst (λ n. is_within n what ≡ true)
    (c.len.ensures ∙ c.loop-done.tokens.ok.0) c.in-Ok.ensures.1) place)

pub returns-in-Err-clause-limit : goal.returns-in-Err-clause-limit
returns-in-Err-clause-limit c = λ limit e.
    let bytes = c.args.bytes.now in
    let done = c.loop-done.done in
    let tokens = c.loop-done.tokens.items in
    let finds = subst (λ n. FindsPiece n (Err c.in-Err.stop) (drop done bytes))
    (c.len.ensures ∙ c.loop-done.tokens.ok.0)
    (subst (FindsPiece c.len.result (Err c.in-Err.stop)) (take_rest bytes done) c.in-Err.ensures) in
    let same : c.fault_at.result ≡ fault.Limit limit = cc in
    limit_so c.args.file bytes done c.loop-done.at tokens c.in-Err.stop limit c.loop-done.invariant finds
    (sym c.fault_at.ensures ∙ same)

pub returns-clause-within : goal.returns-clause-within
returns-clause-within c = subst IsWithinLimits (sym c.loop-done.invariant.listed)
    (tokens_within c.args.file c.loop-done.invariant.pieces c.loop-done.invariant.kept)
