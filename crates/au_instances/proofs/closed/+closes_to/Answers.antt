use Rattle.std.proofs.Common.{◌≡◌, ◌<◌, ◌+◌, ◌&&◌, Bool, List, length, drop, Some, None, Option, ap, refl}
use Rattle.std.proofs.Common.{subst, sym, ◌∙◌}
use Rattle.std.specs.Prelude.{slice_get}
use Rattle.std.specs.Option.{option_copied, option_map}
use Rattle.std.specs.Borrow.{Bor}
use Rattle.au_types.specs.declared.types.Ty.{Ty}
use Rattle.au_types.specs.Types.{Meaning}
use Rattle.au_types.specs.Views.{argument_all, meaning}
use Rattle.au_types.proofs.TypeLemmas.{reads_means, writes_means}
use Rattle.au_type_texts.specs.declared.types.Closed.{Closed}
use Rattle.au_type_texts.specs.Closing.{closed}
use Rattle.au_type_texts.specs.Types.{reads, writes}
use Rattle.au_type_texts.specs.Views.{closed_meaning, closed_meanings}
use Rattle.au_type_texts.proofs.ClosedLemmas.{named_means}
use Rattle.au_instances.specs.ClosedInstances.{all_close_to, closes_to, types_in}
use Rattle.au_instances.proofs.ClosesLemmas.{named_closes, not_reads, not_writes, reads_close, writes_close}
use Rattle.au_instances.proofs.WalkLemmas.{found_within, zip_end, zip_step, zip_unequal}
use Rattle.au_instances.proofs.closed.+closes_to.Goals as goal

-- two lists, and one of both
abbrev F : List Meaning → List Closed → Bool
F types list = all_close_to types (closed_meanings list)

abbrev G : Meaning → Closed → Bool
G t one = closes_to (closed t) (closed_meaning one)

pub all_close_to-returns-then-len-type_count : goal.all_close_to-returns-then-len-type_count
all_close_to-returns-then-len-type_count t c =
    let targets = c.args.targets.now in
    sym (zip_unequal F G (λ x xs y ys. refl) (λ y ys. refl) (λ x xs. refl)
    (types_in (argument_all c.args.args.now)) targets.items
    (λ e. c.if-len-type_count.true (c.len.ensures ∙ targets.ok.0 ∙ sym e ∙ sym c.type_count.ensures)))

pub all_close_to-loop-index-init : goal.all_close_to-loop-index-init
all_close_to-loop-index-init t c =
    record {
      lengths = sym c.type_count.ensures ∙ sym c.if-len-type_count.false ∙ c.len.ensures
          ∙ c.args.targets.now.ok.0;
      rest = refl;
    }

pub all_close_to-unreachable-requires : goal.all_close_to-unreachable-requires
all_close_to-unreachable-requires t c =
    let inside = subst (λ n. c.loop-index.index < n) (sym c.loop-index.invariant.lengths)
    (subst (λ xs. c.loop-index.index < length xs) c.deref-one-items.ensures.value c.loop-index-test.true) in
    let none : slice_get (types_in (argument_all c.args.args.now)) c.loop-index.index ≡ None =
    sym c.nth_type.ensures ∙ ap (λ (o : Option (Bor Ty)). option_map meaning (option_copied o))
    c.in_default.is in
    found_within (types_in (argument_all c.args.args.now)) c.loop-index.index inside none

pub all_close_to-returns-then-not-closes_to : goal.all_close_to-returns-then-not-closes_to
all_close_to-returns-then-not-closes_to t c =
    let types = types_in (argument_all c.args.args.now) in
    let targets = c.args.targets.now.items in
    let i = c.loop-index.index in
    let here : slice_get types i ≡ Some (meaning c.in-Some.of.now) = sym c.nth_type.ensures
    ∙ ap (λ (o : Option (Bor Ty)). option_map meaning (option_copied o)) c.in-Some.is in
    sym (zip_step F G (λ x xs y ys. refl) types targets c.deref-one-items.result.now i
    (meaning c.in-Some.of.now) c.one-item.result c.loop-index.invariant.rest here
    c.deref-one-items.ensures.value c.loop-index-test.true c.one-item.is
    ∙ ap (λ b. b && F (drop (i + 1) types) (drop (i + 1) targets)) (sym c.closes_to.ensures ∙ c.if-not-closes_to.true))

pub all_close_to-loop-index-preserved : goal.all_close_to-loop-index-preserved
all_close_to-loop-index-preserved t c =
    let types = types_in (argument_all c.args.args.now) in
    let targets = c.args.targets.now.items in
    let i = c.loop-index.index in
    let here : slice_get types i ≡ Some (meaning c.in-Some.of.now) = sym c.nth_type.ensures
    ∙ ap (λ (o : Option (Bor Ty)). option_map meaning (option_copied o)) c.in-Some.is in
    record {
      lengths = c.loop-index.invariant.lengths;
      rest =
          zip_step F G (λ x xs y ys. refl) types targets c.deref-one-items.result.now i
          (meaning c.in-Some.of.now) c.one-item.result c.loop-index.invariant.rest here
          c.deref-one-items.ensures.value c.loop-index-test.true c.one-item.is
          ∙ ap (λ b. b && F (drop (i + 1) types) (drop (i + 1) targets))
          (sym c.closes_to.ensures ∙ c.if-not-closes_to.false);
    }

pub all_close_to-returns : goal.all_close_to-returns
all_close_to-returns t c =
    zip_end F G (λ x xs y ys. refl) refl (types_in (argument_all c.args.args.now)) c.args.targets.now.items
    c.deref-one-items.result.now c.loop-index.index
    c.loop-index.invariant.lengths c.loop-index.invariant.rest c.deref-one-items.ensures.value c.loop-index-test.false

pub closes_to-returns-then-is_headed : goal.closes_to-returns-then-is_headed
closes_to-returns-then-is_headed t c =
    let list = closed_meanings c.in-Named.args.items in
    c.all_close_to.ensures
    ∙ ap (λ args. all_close_to (types_in args) list) c.arguments_of.ensures
    ∙ sym (named_closes (meaning c.args.of.now) c.in-Named.at list
    (sym c.is_headed-in-Named.ensures ∙ c.if-is_headed.true))
    ∙ sym (ap (closes_to (closed (meaning c.args.of.now)))
    (ap closed_meaning c.in-Named.is ∙ named_means c.in-Named.at c.in-Named.args))

pub read_closes_to-returns-in-Read : goal.read_closes_to-returns-in-Read
read_closes_to-returns-in-Read t c =
    let target = closed_meaning c.args.target.now in
    c.closes_to.ensures
    ∙ ap (λ u. closes_to (closed (meaning u)) target) c.deref.ensures
    ∙ sym (reads_close (closed (meaning c.in-Read.to.value)) target)
    ∙ sym (ap (λ u. closes_to (closed u) (reads target))
    (ap meaning c.in-Read.is ∙ reads_means c.in-Read.to c.in-Read.region))

pub read_closes_to-returns-in_default : goal.read_closes_to-returns-in_default
read_closes_to-returns-in_default t c =
    sym (not_reads c.args.of.now (closed_meaning c.args.target.now) c.in_default.not-Read)

pub write_closes_to-returns-in-Write : goal.write_closes_to-returns-in-Write
write_closes_to-returns-in-Write t c =
    let target = closed_meaning c.args.target.now in
    c.closes_to.ensures
    ∙ ap (λ u. closes_to (closed (meaning u)) target) c.deref.ensures
    ∙ sym (writes_close (closed (meaning c.in-Write.to.value)) target)
    ∙ sym (ap (λ u. closes_to (closed u) (writes target))
    (ap meaning c.in-Write.is ∙ writes_means c.in-Write.to c.in-Write.region))

pub write_closes_to-returns-in_default : goal.write_closes_to-returns-in_default
write_closes_to-returns-in_default t c =
    sym (not_writes c.args.of.now (closed_meaning c.args.target.now) c.in_default.not-Write)
