-- Each file is fetched behind those before it.
use Rattle.std.proofs.Common.{[], length, map, take, refl, sym, ap, ◌∙◌, subst, ℕ, List, Vec}
use Rattle.std.specs.Global.{Global}
use Rattle.std.proofs.lemmas.Result.{err_from_is_err_and}
use Rattle.au_outcomes.specs.Halts.{AreFilesOf, bytes_in}
use Rattle.au_outcomes.proofs.ComesLemmas.{halts_with}
use Rattle.au_outcomes.proofs.FetchLemmas.{fetched_end, fetched_length, fetched_more, fetched_stop, none_fetched}
use Rattle.au_outcomes.proofs.fetching.fetch_all.Goals as goal

pub loop-index-init : goal.loop-index-init
loop-index-init g c =
    let told = g.S.Shelf.files c.args.shelf.now in (
      subst (λ (l : List (Vec ℕ Global)). AreFilesOf told [] (map bytes_in l)) (sym c.new-all.ensures.items)
          (none_fetched told),
      refl,
      refl,
      refl,
    )

pub fetch_next-requires : goal.fetch_next-requires
fetch_next-requires g c =
    let names = take c.loop-index.index c.args.names.now in
    ap length c.as_slice.ensures.value
    ∙ sym (fetched_length (g.S.Shelf.files c.args.shelf.now) names c.loop-index.all.items
    c.loop-index.invariant.0)

pub returns-in_err-bytes-clause-comes : goal.returns-in_err-bytes-clause-comes
returns-in_err-bytes-clause-comes g c =
    let told = g.S.Shelf.files c.args.shelf.now in
    let names = c.args.names.now in
    let i = c.loop-index.index in
    let name = c.index-names-index.result in
    let p = err_from_is_err_and c.from_residual.result c.from_residual.ensures.1 in
    rw (p.1, p.2)
    (halts_with {T = Vec ℕ Global} c.in_err-bytes.field-0.0 _ _ _ _
    (λ x next. fetched_end told (g.S.Shelf.files c.loop-index.shelf) names (take i names) i name
    c.as_str.result.now c.loop-index.all.items c.as_slice.result.now x
    c.loop-index.invariant.1 c.loop-index-test.true c.index-names-index.is refl c.as_slice.ensures.value
    c.as_str.ensures.value c.loop-index.invariant.0 next)
    c.in_err-bytes.ensures.comes)

pub returns-in_err-bytes-clause-stops : goal.returns-in_err-bytes-clause-stops
returns-in_err-bytes-clause-stops g c = λ _.
    fetched_stop (g.S.Shelf.files c.args.shelf.now) c.args.names.now c.loop-index.index
    c.index-names-index.result c.loop-index.all.items c.requires c.loop-index-test.true
    c.index-names-index.is c.loop-index.invariant.0

pub loop-index-preserved : goal.loop-index-preserved
loop-index-preserved g c =
    let told = g.S.Shelf.files c.args.shelf.now in
    let names = c.args.names.now in
    let i = c.loop-index.index in
    let name = c.index-names-index.result in (
      fetched_more told (g.S.Shelf.files c.loop-index.shelf) names (take i names) i name c.as_str.result.now
          c.loop-index.all.items c.as_slice.result.now c.push.new.self.items c.in_ok-bytes.bytes
          c.loop-index.invariant.1 c.loop-index-test.true c.index-names-index.is refl c.as_slice.ensures.value
          c.as_str.ensures.value c.in_ok-push.ensures.items c.loop-index.invariant.0
          c.in_ok-bytes.ensures.comes,
      c.in_ok-bytes.ensures.files ∙ c.loop-index.invariant.1,
      c.in_ok-bytes.ensures.faults.1 ∙ c.loop-index.invariant.2,
      c.in_ok-bytes.ensures.misses ∙ c.loop-index.invariant.3,
    )
