-- Arguments that are popped, values with births, and shipped calls.
use Rattle.std.proofs.Common.{◌≡◌, ℕ, suc, ◌+◌, ◌<◌, Bool, true, false, if◌then◌else◌, List, [], ◌∷◌, ◌++◌}
use Rattle.std.proofs.Common.{length, map, take, drop, reverse, Option, Some, None, refl, sym, ap, ap₂, subst}
use Rattle.std.proofs.Common.{◌∙◌, arith, slice_get, nat_lt, lt-ltb, append_assoc}
use Rattle.std.proofs.lemmas.List.{length-append, length-map, length-reverse, map-append}
use Rattle.std.proofs.lemmas.List.{reverse-append, reverse-reverse, take_at, drop_at}
use Rattle.au_type_texts.specs.Types.{ClosedType}
use Rattle.au_low.specs.declared.code.LowType.{LowType}
use Rattle.au_low.specs.declared.instructions.Instr.TheVariants as instr
use Rattle.au_low.specs.Instructions as low
use Rattle.au_low.specs.Instructions.{act}
use Rattle.au_low.specs.Machines as machines
use Rattle.au_low.specs.Machines.{Low, Machine, Next, pushes, having, popping_all, ordered}
use Rattle.au_effects.specs.Values.{made, fields_of}
use Rattle.au_effects.specs.Worlds.{nothing, bears}
use Rattle.au_meaning.specs.Acts as acts
use Rattle.au_meaning.specs.Ticks.{gives, follows}
use Rattle.au_lowered.specs.Maps.{held_to}
use Rattle.au_lowered.specs.Sides.{as_meant, as_ran, Coding, Both, Names, Slots, Common}
use Rattle.au_lowered.specs.Frames.{Frame, machine, spot, world}
use Rattle.au_lowered.specs.Sides.{meant, ran, all_meant, all_ran}
use Rattle.au_lowered.proofs.DeedLemmas.{bears_to}
use Rattle.au_lowered.proofs.MapLemmas.{fields_of_to}
use Rattle.au_lowered.proofs.StepLemmas.{Is, Pushes, push_runs}

-- ---- arguments

pub map_reverse : {A B : Type 0} (f : A → B) (xs : List A) → map f (reverse xs) ≡ reverse (map f xs)
map_reverse f [] = refl
map_reverse f (x ∷ xs) =
    ap (λ ys. map f ys) (reverse-append (x ∷ []) xs) ∙ map-append f (reverse xs) (x ∷ [])
    ∙ ap (λ ys. ys ++ f x ∷ []) (map_reverse f xs) ∙ sym (reverse-append (f x ∷ []) (map f xs))

-- an argument is pushed, and then others
pub pushed_more : {A : Type 0} (x : A) (xs ops : List A) → reverse xs ++ x ∷ ops ≡ reverse (x ∷ xs) ++ ops
pushed_more x xs ops =
    sym (append_assoc (reverse xs) (x ∷ []) ops) ∙ ap (λ ys. ys ++ ops) (sym (reverse-append (x ∷ []) xs))

module _ (by : Coding) (f : Frame by) where
  operands_are : (vs ops : List (Both by)) → all_ran by (reverse vs ++ ops)
      ≡ reverse (all_ran by vs) ++ all_ran by ops
  operands_are vs ops =
      map-append (ran by) (reverse vs) ops ∙ ap (λ xs. xs ++ all_ran by ops) (map_reverse (ran by) vs)

  -- all arguments are popped
  pub popped_all : (count p : ℕ) (vs ops : List (Both by)) (slots : Slots) (c : Common by) (go : List Low
      → Machine → Next)
      → length vs ≡ count
      → popping_all count (machine by f p (reverse vs ++ ops) slots c) go
      ≡ go (all_ran by vs) (machine by f p ops slots c)
  popped_all count p vs ops slots c go e =
      let m = machine by f p ops slots c in
      let xs = all_ran by vs in
      let rest = all_ran by ops in
      let many : length (reverse xs) ≡ count = length-reverse xs ∙ length-map vs (ran by) ∙ e in
      let enough : count < length (reverse xs ++ rest) + 1 = omega (
        arith,
        many,
        length-append (reverse xs)
            rest,
      ) in
      ap (λ all. machines.where_true (nat_lt count (length all + 1)) (go (reverse (take count all)) (record
      m { operands = drop count all }))) (operands_are vs ops)
      ∙ ap (λ b. machines.where_true b (go (reverse (take count (reverse xs ++ rest))) (record m {
        operands
            = drop count (reverse xs ++ rest);
      }))) (lt-ltb count (length (reverse xs ++ rest) + 1) enough)
      ∙ ap₂ (λ first others. go (reverse first) (record m { operands = others })) (take_at (reverse xs) rest
      count many) (drop_at (reverse xs) rest count many)
      ∙ ap (λ all. go all m) (reverse-reverse xs)

  -- ---- records and unions

  module _ (Holds : Names → Slots → Type 0) where
    -- a value of a case is made
    pub make_runs : (of : ClosedType) (type : LowType) (linear : Bool) (tag : ℕ) (order home : List ℕ) (p q
        l : ℕ) (vs args ops : List (Both by)) (names : Names) (slots : Slots) (c : Common by)
        → Is by f p (instr.Make (by.of of) tag order home) → q ≡ p + 1 → Holds names slots
        → length vs ≡ length order → ordered order (all_ran by vs) ≡ Some (all_ran by args)
        → slice_get by.code.types (by.of of) ≡ Some type → type.linear ≡ linear
        → Pushes by f Holds q ops 7 (spot by f p (reverse vs ++ ops) slots c) (suc l)
        (acts.makes_value linear of tag home (all_meant by args) (world by f names c) l)
    unfolding act follows
    make_runs of type linear tag order home p q l vs args ops names slots c is next h many in_order has
        is_linear =
        made_so linear is_linear
      where
        m : Machine
        m = machine by f p ops slots c

        acted : act by.code (instr.Make (by.of of) tag order home) (machine by f p (reverse vs ++ ops) slots
            c)
            ≡ low.makes (by.of of) tag home (all_ran by args) type (machine by f p ops slots c)
        acted =
            popped_all (length order) p vs ops slots c (λ values m. having (ordered order values) (λ values.
            having (slice_get by.code.types (by.of of)) (λ type. low.makes (by.of of) tag home values
            type m))) many
            ∙ ap (λ o. having o (λ values. having (slice_get by.code.types (by.of of)) (λ type. low.makes
            (by.of of) tag home values type (machine by f p ops slots c)))) in_order
            ∙ ap (λ o. having o (λ type. low.makes (by.of of) tag home (all_ran by args) type (machine by f
            p ops slots c))) has

        view_is : (birth : Option ℕ) → made tag birth (fields_of (all_meant by args))
            ≡ meant by (made tag birth (fields_of args))
        view_is birth = ap (λ fields. made tag birth fields) (fields_of_to (as_meant by) args)

        low_is : (birth : Option ℕ) → made tag birth (fields_of (all_ran by args))
            ≡ ran by (made tag birth (fields_of args))
        low_is birth = ap (λ fields. made tag birth fields) (fields_of_to (as_ran by)
            args)

        made_so : (b : Bool) → type.linear ≡ b
            → Pushes by f Holds q ops 7 (spot by f p (reverse vs ++ ops) slots c) (suc l)
            (acts.makes_value b of tag home (all_meant by args) (world by f names c) l)
        made_so false e =
            subst (λ v. Pushes by f Holds q ops 7 (spot by f p (reverse vs ++ ops) slots c) (suc l) (gives v
            (world by f names c) l)) (sym (view_is None))
            (push_runs by f Holds (instr.Make (by.of of) tag order home) p q l (made tag None (fields_of
            args)) ops (reverse vs ++ ops) names slots slots c c is next h refl refl
            (acted
            ∙ ap (λ b. if b then pushes (made tag (Some (length m.world.births)) (fields_of (all_ran by
            args))) (machines.in_world (bears (by.of of) home nothing m.world) m) else pushes (made tag
            None (fields_of (all_ran by args))) m) e
            ∙ ap (λ v. pushes v m) (low_is None)))
        made_so true e =
            let new = record c { store = bears of home nothing c.store } in
            let id = length c.store.births in
            let meant_id : length (world by f names c).store.births
            ≡ id = length-map c.store.births (held_to (as_meant by)) in
            let ran_id : length m.world.births ≡ id = length-map c.store.births (held_to (as_ran by)) in
            subst (λ v. Pushes by f Holds q ops 7 (spot by f p (reverse vs ++ ops) slots c) (suc l) (gives v
            (acts.in_store (bears of home nothing (world by f names c).store) (world by f names c)) l))
            (sym (ap (λ n. made tag (Some n) (fields_of (all_meant by args))) meant_id ∙ view_is (Some id)))
            (subst (λ store. Pushes by f Holds q ops 7 (spot by f p (reverse vs ++ ops) slots c) (suc l)
            (gives (meant by (made tag (Some id) (fields_of args))) (acts.in_store store (world by f
            names c)) l))
            (sym (bears_to (as_meant by) (λ (t : ClosedType). t) (names.below ++ names.own ∷ []) of
            home nothing c.store))
            (push_runs by f Holds (instr.Make (by.of of) tag order home) p q l (made tag (Some id)
            (fields_of args)) ops (reverse vs ++ ops) names slots slots new c is next h refl refl
            (acted
            ∙ ap (λ b. if b then pushes (made tag (Some (length m.world.births)) (fields_of (all_ran by
            args))) (machines.in_world (bears (by.of of) home nothing m.world) m) else pushes (made tag
            None (fields_of (all_ran by args))) m) e
            ∙ ap₂ (λ v w. pushes v (machines.in_world w m)) (ap (λ n. made tag (Some n) (fields_of (all_ran
            by args))) ran_id ∙ low_is (Some id))
            (bears_to (as_ran by) by.of (slots.below ++ slots.own ∷ []) of home nothing
            c.store))))
