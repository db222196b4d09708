use Rattle.std.proofs.Common.{◌≡◌, ◌<◌, ◌+◌, ◌&&◌, Bool, List, length, drop, Some, None, Option, ap, refl}
use Rattle.std.proofs.Common.{subst, sym, ◌∙◌}
use Rattle.std.specs.Prelude.{slice_get}
use Rattle.std.specs.Option.{option_copied, option_map}
use Rattle.std.specs.Borrow.{Bor}
use Rattle.au_types.specs.declared.headings.Head.{Head}
use Rattle.au_types.specs.declared.types.DeclAt.{DeclAt}
use Rattle.au_types.specs.declared.types.Ty.{Ty}
use Rattle.au_types.specs.Types.{Meaning}
use Rattle.au_types.specs.Views.{argument_all, meaning}
use Rattle.au_type_texts.specs.declared.types.Closed.{Closed}
use Rattle.au_type_texts.specs.Views.{closed_meaning, closed_meanings}
use Rattle.au_judged_types.specs.Bounds.{Bounded}
use Rattle.au_instances.specs.ClosedInstances.{all_closed_stand, closed_stands, part_of, parts_in, parts_of, types_in}
use Rattle.au_instances.specs.Forms.{type_name}
use Rattle.au_instances.specs.Rows.{Row}
use lib.Dec.{eqb}
use Rattle.au_instances.proofs.ClosedLemmas.{gives_alone, no_parts}
use Rattle.au_instances.proofs.WalkLemmas.{found_within, zip_end, zip_step, zip_unequal}
use Rattle.au_instances.proofs.closed.+closed_row.Goals as goal

-- two lists, and one of both
module _ (rows : List Row) (heads : List (DeclAt × Head)) (generics : List Bounded) where
  abbrev F : List Meaning → List Closed → Bool
  F types list = all_closed_stand heads generics types (parts_of rows heads (closed_meanings list))

  abbrev G : Meaning → Closed → Bool
  G t one = closed_stands heads generics (type_name t) (part_of rows heads (closed_meaning one))

pub all_stand-returns-then-len-type_count : goal.all_stand-returns-then-len-type_count
all_stand-returns-then-len-type_count t c =
    let args = c.args.args.now in
    let rows = c.args.instances.now in
    let heads = c.args.heads.now in
    let generics = c.args.generics.now in
    sym (zip_unequal (F rows heads generics) (G rows heads generics) (λ x xs y ys. refl) (λ y ys. refl)
    (λ x xs. refl) (types_in (argument_all c.args.names.now)) args.items
    (λ e. c.if-len-type_count.true (c.len.ensures ∙ args.ok.0 ∙ sym e ∙ sym c.type_count.ensures)))

pub all_stand-loop-index-init : goal.all_stand-loop-index-init
all_stand-loop-index-init t c =
    record {
      lengths = sym c.type_count.ensures ∙ sym c.if-len-type_count.false ∙ c.len.ensures
          ∙ c.args.args.now.ok.0;
      rest = refl;
    }

pub all_stand-unreachable-requires : goal.all_stand-unreachable-requires
all_stand-unreachable-requires t c =
    let inside = subst (λ n. c.loop-index.index < n) (sym c.loop-index.invariant.lengths)
    (subst (λ xs. c.loop-index.index < length xs) c.deref-one-items.ensures.value c.loop-index-test.true) in
    let none : slice_get (types_in (argument_all c.args.names.now)) c.loop-index.index ≡ None =
    sym c.nth_type.ensures ∙ ap (λ (o : Option (Bor Ty)). option_map meaning (option_copied o))
    c.in_default.is in
    found_within (types_in (argument_all c.args.names.now)) c.loop-index.index inside none

pub all_stand-returns-then-not-stands : goal.all_stand-returns-then-not-stands
all_stand-returns-then-not-stands t c =
    let rows = c.args.instances.now in
    let heads = c.args.heads.now in
    let generics = c.args.generics.now in
    let types = types_in (argument_all c.args.names.now) in
    let args = c.args.args.now.items in
    let i = c.loop-index.index in
    let here : slice_get types i ≡ Some (meaning c.in-Some.name.now) = sym c.nth_type.ensures
    ∙ ap (λ (o : Option (Bor Ty)). option_map meaning (option_copied o)) c.in-Some.is in
    sym (zip_step (F rows heads generics) (G rows heads generics) (λ x xs y ys. refl) types args
    c.deref-one-items.result.now i (meaning c.in-Some.name.now) c.one-item.result
    c.loop-index.invariant.rest here c.deref-one-items.ensures.value c.loop-index-test.true c.one-item.is
    ∙ ap (λ b. b && F rows heads generics (drop (i + 1) types) (drop (i + 1) args))
    (sym c.stands.ensures ∙ c.if-not-stands.true))

pub all_stand-loop-index-preserved : goal.all_stand-loop-index-preserved
all_stand-loop-index-preserved t c =
    let rows = c.args.instances.now in
    let heads = c.args.heads.now in
    let generics = c.args.generics.now in
    let types = types_in (argument_all c.args.names.now) in
    let args = c.args.args.now.items in
    let i = c.loop-index.index in
    let here : slice_get types i ≡ Some (meaning c.in-Some.name.now) = sym c.nth_type.ensures
    ∙ ap (λ (o : Option (Bor Ty)). option_map meaning (option_copied o)) c.in-Some.is in
    record {
      lengths = c.loop-index.invariant.lengths;
      rest =
          zip_step (F rows heads generics) (G rows heads generics) (λ x xs y ys. refl) types args
          c.deref-one-items.result.now i (meaning c.in-Some.name.now) c.one-item.result
          c.loop-index.invariant.rest here c.deref-one-items.ensures.value c.loop-index-test.true
          c.one-item.is
          ∙ ap (λ b. b && F rows heads generics (drop (i + 1) types) (drop (i + 1) args))
          (sym c.stands.ensures ∙ c.if-not-stands.false);
    }

pub all_stand-returns : goal.all_stand-returns
all_stand-returns t c =
    let rows = c.args.instances.now in
    let heads = c.args.heads.now in
    let generics = c.args.generics.now in
    zip_end (F rows heads generics) (G rows heads generics) (λ x xs y ys. refl) refl
    (types_in (argument_all c.args.names.now)) c.args.args.now.items c.deref-one-items.result.now
    c.loop-index.index
    c.loop-index.invariant.lengths c.loop-index.invariant.rest c.deref-one-items.ensures.value c.loop-index-test.false

pub gives-returns-in_default : goal.gives-returns-in_default
gives-returns-in_default t c =
    let heads = c.args.heads.now in
    let closed = closed_meaning c.args.of.now in
    ap (λ n. eqb n 0) (c.type_count.ensures ∙ ap (λ args. length (types_in args)) c.arguments_of-names.ensures)
    ∙ sym (gives_alone heads c.args.row.now.generics (meaning c.args.row.now.head) closed
    (parts_in c.args.instances.now heads closed) (λ e. c.if-len-eq0.false (c.len.ensures ∙ e))
    (no_parts c.args.instances.now heads c.args.of.now c.in_default.not-Named))
