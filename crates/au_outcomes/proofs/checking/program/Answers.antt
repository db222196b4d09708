-- The files are too many, or one can't be had, or their bytes come to something.
use Rattle.std.proofs.Common.{◌≤◌, ap, sym, subst, map, List, Vec, ℕ, length, arith}
use Rattle.std.specs.Global.{Global}
use Rattle.std.specs.List.{All}
use Rattle.std.specs.String.{string_bytes}
use Rattle.std.proofs.lemmas.List.{length-map}
use Rattle.std.proofs.lemmas.Result.{err_from_is_err_and}
use Rattle.au_base.specs.Limits.{most_file_bytes}
use Rattle.au_outcomes.specs.declared.outcomes.Outcome.{Outcome}
use Rattle.au_outcomes.specs.Halts.{ComesTo, bytes_in}
use Rattle.au_accepted.specs.Files.{most_files}
use Rattle.au_outcomes.specs.Outcomes.{BytesCome}
use Rattle.au_outcomes.proofs.ComesLemmas.{bytes_come, few_come, halts_with, many_come, no_miss, read_with, says_map}
use Rattle.au_outcomes.proofs.FetchLemmas.{are_small, fetched_length}
use Rattle.au_outcomes.proofs.checking.program.Goals as goal

pub returns-in_err-few_enough-clause-comes : goal.returns-in_err-few_enough-clause-comes
returns-in_err-few_enough-clause-comes g c =
    let names = c.args.names.now in
    let p = err_from_is_err_and c.from_residual.result c.from_residual.ensures.1 in
    rw (p.1, p.2)
    (halts_with c.in_err-few_enough.field-0.0 _ _ _ _
    (λ x h. many_come c.args.aim (g.S.Shelf.files c.args.shelf.now) (map string_bytes names) (length names) x
    (sym (length-map names string_bytes)) h.0 h.1)
    c.in_err-few_enough.ensures.comes)

pub returns-in_err-all-clause-comes : goal.returns-in_err-all-clause-comes
returns-in_err-all-clause-comes g c =
    let names = map string_bytes c.args.names.now in
    let few : length names ≤ most_files =
    omega (arith, length-map c.args.names.now string_bytes, c.in_ok-few_enough.ensures.comes) in
    let p = err_from_is_err_and c.from_residual-in_err-all.result c.from_residual-in_err-all.ensures.1 in
    rw (p.1, p.2)
    (halts_with c.in_err-all.field-0.0 _ _ _ _
    (λ x h. few_come c.args.aim (g.S.Shelf.files c.args.shelf.now) names x few h)
    c.in_err-all.ensures.comes)

pub returns-in_err-all-clause-stops : goal.returns-in_err-all-clause-stops
returns-in_err-all-clause-stops g c =
    let p = err_from_is_err_and c.from_residual-in_err-all.result c.from_residual-in_err-all.ensures.1 in
    rw (p.1, p.2)
    (λ h. c.in_err-all.ensures.stops (read_with Outcome (Vec (Vec ℕ Global) Global) c.in_err-all.field-0.0 h))

pub outcome_of-requires-clause-few : goal.outcome_of-requires-clause-few
outcome_of-requires-clause-few g c =
    let same = fetched_length (g.S.Shelf.files c.args.shelf.now) c.args.names.now c.in_ok-all.all.items
    c.in_ok-all.ensures.comes in
    let slice = ap length c.as_slice.ensures.value in
    omega (arith, c.in_ok-few_enough.ensures.comes)

pub outcome_of-requires-clause-small : goal.outcome_of-requires-clause-small
outcome_of-requires-clause-small g c =
    let files = c.in_ok-all.ensures.comes in
    subst (λ (l : List (Vec ℕ Global)). All (λ (b : Vec ℕ Global). length b.items ≤ most_file_bytes) l)
    (sym c.as_slice.ensures.value)
    (are_small files.0 (map string_bytes c.args.names.now) c.in_ok-all.all.items files.2)

pub returns-clause-comes : goal.returns-clause-comes
returns-clause-comes g c =
    let told = g.S.Shelf.files c.args.shelf.now in
    let names = map string_bytes c.args.names.now in
    let all = c.in_ok-all.all.items in
    let few : length names ≤ most_files =
    omega (arith, length-map c.args.names.now string_bytes, c.in_ok-few_enough.ensures.comes) in
    let told_so : (x : Outcome) → BytesCome c.args.aim (map bytes_in c.as_slice.result.now) x
    → ComesTo c.args.aim told names x = λ x h.
    bytes_come c.args.aim told names (map bytes_in all) x few c.in_ok-all.ensures.comes
    (subst (λ (l : List (Vec ℕ Global)). BytesCome c.args.aim (map bytes_in l) x) c.as_slice.ensures.value h) in
    says_map c.outcome_of.result _ _ _ _ told_so told_so c.outcome_of.ensures.comes

pub returns-clause-misses : goal.returns-clause-misses
returns-clause-misses g c =
    no_miss c.args.aim c.outcome_of.result (map bytes_in c.as_slice.result.now)
    (g.S.Shelf.misses c.args.shelf.now) (g.S.Shelf.misses c.fetch_all.new.shelf) c.outcome_of.ensures.comes
    c.in_ok-all.ensures.misses
