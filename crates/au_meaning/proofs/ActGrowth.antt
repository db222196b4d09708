-- What is done to the world goes on from it.
use Rattle.std.proofs.Common.{ℕ, zero, suc, ◌+◌, Bool, true, false, List, [], ◌∷◌, length, Option, Some, None, refl}
use Rattle.au_type_texts.specs.Types.{ClosedType}
use Rattle.au_effects.specs.Values.{made}
use Rattle.au_effects.specs.Worlds.{nothing, bears, spends}
use Rattle.au_syntax.specs.Plain.{Bytes}
use Rattle.std.specs.Prelude.{map}
use Rattle.au_effects.specs.References.{next_reference, newer}
use Rattle.au_effects.specs.Values.{Place}
use Rattle.au_syntax.specs.declared.expressions.BorrowMode.{BorrowMode}
use Rattle.au_syntax.specs.declared.types.Access.{Access}
use Rattle.au_meaning.specs.Acts.{in_store, with_value, with_values, place_of, looks, moves, holds, stored}
use Rattle.au_meaning.specs.Acts.{sets, emptied, refers, reads, puts, access_of, borrowed_place, with_borrow}
use Rattle.au_meaning.specs.Acts.{lends, counts_open, closed_to, closing, begins, ends_frame, makes_value}
use Rattle.au_meaning.specs.Acts.{apart, tells_apart}
use Rattle.au_meaning.specs.Laws.{Continues}
use Rattle.au_meaning.specs.Ticks.{Action, does}
use Rattle.au_meaning.specs.Worlds.{Value, Store, Borrow, World}
use Rattle.au_meaning.proofs.Growing.{begins_refl, continues_refl, continues_trans, Found, Grows, grows_bind}
use Rattle.au_meaning.proofs.Growing.{grows_then, grows_pure, grows_stuck, grows_asks, grows_does}
use Rattle.au_meaning.proofs.Growing.{grows_takes}
use Rattle.au_meaning.proofs.CallGrowth.{Kept, PairKept, exchanged_kept, put_kept, read_kept, kept_opens}
use Rattle.au_meaning.proofs.CallGrowth.{kept_closes, kept_bears, kept_spends, told_kept}

-- a store whose events go on
pub store_continues : (w : World) (s : Store) → Kept w.store s → Continues w (in_store s w)
store_continues w s k = record { output = begins_refl w.output; events = k; input = ([], refl) }

pub value_continues : (name : ℕ) (value : Option Value) (w : World) → Continues w (with_value name value w)
value_continues name value w = store_continues w _ (begins_refl w.store.deeds)

pub values_continue : (name : ℕ) (values : List Value) (w : World) → Continues w (with_values name values w)
values_continue name [] w = continues_refl w
values_continue name (value ∷ rest) w =
    continues_trans (value_continues name (Some value) w) (values_continue (name + 1) rest (with_value name
    (Some value) w))

pub emptied_continues : (name count : ℕ) (w : World) → Continues w (emptied name count w)
emptied_continues name zero w = continues_refl w
emptied_continues name (suc count) w =
    continues_trans (value_continues name None w) (emptied_continues (name + 1) count
    (with_value name None w))

pub begins_continues : (names : List (Option Value)) (w : World) → Continues w (begins names w)
begins_continues names w = store_continues w _ (begins_refl w.store.deeds)

pub ends_continues : (w : World) → Continues w (ends_frame w)
ends_continues w = store_continues w _ (begins_refl w.store.deeds)

stored_found : {A : Type 0} (w : World) (o : Option (A × Store)) → PairKept w.store o → Found w (stored o w)
stored_found w None k = tt
stored_found w (Some pair) k = store_continues w pair.1 k

pub looks_grows : (name : ℕ) (path : List ℕ) → Grows (looks name path) (looks name path)
looks_grows name path = grows_asks _

pub moves_grows : (name : ℕ) → Grows (moves name) (moves name)
moves_grows name =
    grows_bind (grows_asks _) (λ value. grows_then (grows_does (value_continues name None)) grows_pure)

pub holds_grows : (name : ℕ) (value : Value) → Grows (holds name value) (holds name value)
holds_grows name value = grows_does (value_continues name (Some value))

pub sets_grows : (name : ℕ) (path : List ℕ) (value : Value)
    → Grows (sets name path value) (sets name path value)
sets_grows name path value =
    grows_takes _ (λ w. stored_found w _ (exchanged_kept (place_of name path w) value w.store))

pub refers_grows : (name : ℕ) (path : List ℕ) → Grows (refers name path) (refers name path)
refers_grows name path = grows_asks _

pub reads_grows : (one : ℕ × Place) → Grows (reads one) (reads one)
reads_grows one = grows_takes _ (λ w. stored_found w _ (read_kept one w.store))

pub puts_grows : (one : ℕ × Place) (value : Value) → Grows (puts one value) (puts one value)
puts_grows one value = grows_takes _ (λ w. stored_found w _ (put_kept one value w.store))

borrow_continues : (access : Access) (place : Place) (w : World) → Continues w (with_borrow access place w)
borrow_continues access place w =
    record { output = begins_refl w.output; events = kept_opens w.store; input = ([], refl) }

pub lends_grows : (mode : BorrowMode) (name : ℕ) → Grows (lends mode name) (lends mode name)
lends_grows mode name =
    grows_bind (grows_asks (borrowed_place mode name)) (λ place.
    grows_bind (grows_asks (λ w. Some (next_reference place w.store))) (λ value.
    grows_then (grows_does (borrow_continues (access_of mode) place)) (grows_pure {a = value})))

closed_continues : (count : ℕ) (w : World) → Continues w (closed_to count w)
closed_continues count w = record {
  output = begins_refl w.output;
  events = kept_closes (map (λ (one : Borrow). one.number) (newer count w.borrows)) w.store;
  input = ([], refl);
}

pub closes_grows : (count : ℕ) → Grows (does (closed_to count)) (does (closed_to count))
closes_grows count = grows_does (closed_continues count)

pub counts_grows : Grows counts_open counts_open
counts_grows = grows_asks (λ w. Some (length w.borrows))

pub closing_grows : {A : Type 0} {m m2 : Action A} → Grows m m2 → Grows (closing m) (closing m2)
closing_grows g =
    grows_bind counts_grows (λ count. grows_bind g (λ a. grows_then (closes_grows count) grows_pure))

pub makes_grows : (linear : Bool) (of : ClosedType) (tag : ℕ) (home : Bytes) (fields : List Value)
    → Grows (makes_value linear of tag home fields) (makes_value linear of tag home fields)
makes_grows false of tag home fields = grows_pure
makes_grows true of tag home fields =
    grows_bind (grows_asks (λ world. Some (length world.store.births))) (λ id.
    grows_then (grows_does {change = λ world. in_store (bears of home nothing world.store) world} (λ w.
    store_continues w _ (kept_bears of home nothing w.store))) grows_pure)

pub apart_grows : (value : Value) → Grows (apart value) (apart value)
apart_grows (made tag birth held) =
    grows_then (grows_does {change = λ world. in_store (spends birth world.store) world} (λ w.
    store_continues w _ (kept_spends birth w.store))) grows_pure
apart_grows other = grows_stuck

pub tells_grows : (value : Value) → Grows (tells_apart value) (tells_apart value)
tells_grows value = grows_takes _ (λ w. stored_found w _ (told_kept value w.store))
