-- A pile lies between the place where it begins and the one where the next begins.
use Rattle.std.proofs.Common.{◌≤◌, ◌<◌, ◌-◌, Some, length, take, drop, get_or, reverse, slice_get, arith, sym, ap, ◌∙◌}
use Rattle.std.proofs.lemmas.List.{length-reverse}
use Rattle.std.proofs.lemmas.Option.{slice_get_past}
use Rattle.au_cells.proofs.PileLemmas.{below_count, start_below, ends_within, pile_is}
use Rattle.au_cells.proofs.stacking.Piles.below.Goals as goal

pub returns-then-len-index : goal.returns-then-len-index
returns-then-len-index g c =
    let piles = c.self.inside in
    let bases = reverse piles.bases.items in
    let count = below_count piles.items.items piles.base bases c.args.self.now c.self.view_is in
    let past : length c.args.self.now.1 ≤ c.args.index = omega (
      arith,
      count,
      length-reverse piles.bases.items,
      piles.bases.ok.0,
      c.len.ensures,
      c.if-len-index.true,
    ) in
    sym (slice_get_past c.args.self.now.1 c.args.index past)

pub part_of-requires : goal.part_of-requires
part_of-requires g c =
    let piles = c.self.inside in
    let bases = reverse piles.bases.items in
    let lt : c.args.index < length bases = omega
    (arith, length-reverse piles.bases.items, piles.bases.ok.0, c.len.ensures, c.if-len-index.false) in
    let low = start_below bases piles.base c.args.index c.self.invariant.1 lt in
    let high = ends_within bases piles.base c.args.index c.self.invariant.1 in
    record {
      order = omega (arith, low, c.start_of-start.ensures, c.end_of-end.ensures);
      within = omega (arith, high, c.self.invariant.0, c.end_of-end.ensures);
    }

pub returns : goal.returns
returns g c =
    let piles = c.self.inside in
    let items = piles.items.items in
    let bases = reverse piles.bases.items in
    let lt : c.args.index < length bases = omega
    (arith, length-reverse piles.bases.items, piles.bases.ok.0, c.len.ensures, c.if-len-index.false) in
    let within : piles.base ≤ length items = omega (arith, piles.items.ok.0, c.self.invariant.0) in
    ap Some c.part_of.ensures
    ∙ ap (λ n. Some (take (c.end_of-end.result - n) (drop n items))) c.start_of-start.ensures
    ∙ ap (λ n. Some (take (n - get_or bases c.args.index 0) (drop
    (get_or bases c.args.index 0) items))) c.end_of-end.ensures
    ∙ sym (pile_is bases piles.base items c.args.index within c.self.invariant.1 lt)
    ∙ ap (λ v. slice_get v.1 c.args.index) c.self.view_is
