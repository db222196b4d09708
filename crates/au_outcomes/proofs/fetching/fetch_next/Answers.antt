-- A name that stands before has its bytes, and another one is fetched.
use Rattle.std.proofs.Common.{◌∙◌, ap, sym, ℕ, Vec}
use Rattle.std.specs.Global.{Global}
use Rattle.au_outcomes.specs.Halts.{IsUnhad, Tells}
use Rattle.au_accepted.specs.Files.{IsFile}
use Rattle.au_outcomes.specs.declared.outcomes.Outcome.{Outcome}
use Rattle.au_outcomes.proofs.ComesLemmas.{says_map}
use Rattle.au_outcomes.proofs.FetchLemmas.{found_before, found_new}
use Rattle.au_outcomes.proofs.fetching.fetch_next.Goals as goal

pub returns-in_ok-bytes-in-Some-clause-comes : goal.returns-in_ok-bytes-in-Some-clause-comes
returns-in_ok-bytes-in-Some-clause-comes g c =
    found_before (g.S.Shelf.files c.args.shelf.now) c.args.before.now c.args.all.now c.args.name.now
    c.in_ok-bytes-in-Some.bytes.items c.in-Some.index c.index-all-index.result (sym c.in-Some.ensures)
    (c.in_ok-bytes-in-Some.ensures ∙ c.as_slice.ensures.value ∙ ap (λ (v : Vec ℕ Global). v.items) c.index-all-index.is)

pub returns-in-None-clause-comes : goal.returns-in-None-clause-comes
returns-in-None-clause-comes g c =
    let told = g.S.Shelf.files c.args.shelf.now in
    let before = c.args.before.now in
    let all = c.args.all.now in
    let name = c.args.name.now in
    says_map c.fetched.result
    (λ (bytes : Vec ℕ Global). Tells told name (λ files. IsFile files name bytes.items)) _
    (λ (x : Outcome). Tells told name (λ files. IsUnhad files name x)) _
    (λ (bytes : Vec ℕ Global) t. found_new told before all name (λ files. IsFile files name bytes.items)
    (sym c.in-None.ensures) t)
    (λ x t. found_new told before all name (λ files. IsUnhad files name x) (sym c.in-None.ensures) t)
    c.fetched.ensures.comes
