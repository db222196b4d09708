-- How two parts together deal with a variable, by what their tables have of its name.
use Rattle.std.proofs.Common.{◌≡◌, ℕ, Bool, true, false, cond, List, [], ◌∷◌, Option, None, Some, refl, sym}
use Rattle.std.proofs.Common.{ap, ◌∙◌, if◌then◌else◌}
use Rattle.std.specs.Str.{bytes_eq}
use Rattle.au_base.proofs.TextLemmas.{bytes_same}
use Rattle.au_syntax.specs.declared.types.Access.{Access}
use Rattle.au_syntax.specs.declared.types.Access.TheVariants as accesses
use Rattle.au_syntax.specs.Plain.{Bytes}
use Rattle.au_lives.specs.Lives.{Hold, unlent, read_lent, write_lent, hidden, tighter, held_from}
use Rattle.au_lives.specs.Paths.{declared, lent}
use Rattle.au_clearing.specs.declared.touches.Touch.{Touch}
use Rattle.au_clearing.specs.declared.touches.Touch.TheVariants.{Untouched, Quiet, Written, Consumed, Broken}
use Rattle.au_clearing.specs.declared.touches.Touches.{Touches}
use Rattle.au_clearing.specs.declared.dealings.Dealing.{Dealing}
use Rattle.au_clearing.specs.declared.dealings.Dealings.{Dealings}
use Rattle.au_clearing.specs.declared.deals.Deals.{Deals}
use Rattle.au_clearing.specs.declared.deals.Way.{Way}
use Rattle.au_clearing.specs.declared.deals.Way.TheVariants as ways
use Rattle.au_clearing.specs.Touches.{unless_hidden}
use Rattle.au_clearing.specs.Dealings.{dealing, nothing, once, chain, turns, lend, lend_by, lend_named, by_type}
use Rattle.au_clearing.specs.Deals.{or_rest, seen_at, by_touch, touch_or_none, touch_in, kept_if, by, by_both}
use Rattle.au_clearing.specs.Deals.{alike, settled, or_alike, absorbed, stepped}
use Rattle.au_clearing.specs.Tables.{find, Changes}

-- what is found in a table after a change
pub found_here : {V : Type 0} (old new : List (Bytes × V)) (name x : Bytes) (value : Option V) →
    Changes old new name value → bytes_eq name x ≡ true → find x new ≡ value
found_here old new name x value h e = h x ∙ ap (λ b. cond b value (find x old)) e

pub found_other : {V : Type 0} (old new : List (Bytes × V)) (name x : Bytes) (value : Option V) →
    Changes old new name value → bytes_eq name x ≡ false → find x new ≡ find x old
found_other old new name x value h e = h x ∙ ap (λ b. cond b value (find x old)) e

same_found : {V : Type 0} (table : List (Bytes × V)) (name x : Bytes) → bytes_eq name x ≡ true →
    find x table ≡ find name table
same_found table name x e = ap (λ n. find n table) (sym (bytes_same name x e))

module _ {A : Type 0} (change : A → Dealings → Dealings) (rest : Dealing) where
  -- one name more is absorbed
  pub absorb_step : (left left' : List (Bytes × A)) (done done' : List (Bytes × Dealings)) (name : Bytes) (a : A)
      (new : Dealings) → find name left ≡ Some a → Changes left left' name None →
      new ≡ change a (or_alike (find name done) rest) → Changes done done' name (Some new) → (x : Bytes) →
      absorbed change rest (find x left') (find x done') ≡ absorbed change rest (find x left) (find x done)
  absorb_step left left' done done' name a new here gone is put x = by (bytes_eq name x) refl
    where
      by : (b : Bool) → bytes_eq name x ≡ b →
          absorbed change rest (find x left') (find x done') ≡ absorbed change rest (find x left) (find x done)
      by true e =
          ap (λ o. absorbed change rest o (find x done')) (found_here left left' name x None gone e)
          ∙ found_here done done' name x (Some new) put e
          ∙ ap Some (is ∙ ap (λ o. change a (or_alike o rest)) (sym (same_found done name x e)))
          ∙ sym (ap (λ o. absorbed change rest o (find x done)) (same_found left name x e ∙ here))
      by false e =
          ap (λ o. absorbed change rest o (find x done')) (found_other left left' name x None gone e)
          ∙ ap (absorbed change rest (find x left)) (found_other done done' name x (Some new) put e)

  pub absorb_end : (left : List (Bytes × A)) (done : List (Bytes × Dealings)) (x : Bytes) → left ≡ [] →
      absorbed change rest (find x left) (find x done) ≡ find x done
  absorb_end left done x e = ap (λ l. absorbed change rest (find x l) (find x done)) e

-- what is left, or else what is done
abbrev pub prefer : {V : Type 0} → Option V → Option V → Option V
prefer (Some v) o = Some v
prefer None o = o

module _ (way : Way) (rest : Dealing) (one : List (Bytes × Dealings)) where
  abbrev pub settling : Bytes → Option Dealings → Option Dealings
  settling x o = settled way rest (find x one) o

  settled_none : (p : Option Dealings) → settled way rest p None ≡ None
  settled_none None = refl
  settled_none (Some d) = refl

  settled_here : (p : Option Dealings) (d new : Dealings) (o : Option Dealings) →
      settled way rest p (Some d) ≡ Some new → prefer (settled way rest p (Some d)) o ≡ Some new
  settled_here None d new o h = h
  settled_here (Some e) d new o h = h

  -- one name more is settled
  pub settle_step : (left left' done done' : List (Bytes × Dealings)) (name : Bytes) (d new : Dealings) →
      find name left ≡ Some d → Changes left left' name None →
      settled way rest (find name one) (Some d) ≡ Some new → Changes done done' name (Some new) → (x : Bytes) →
      prefer (settling x (find x left')) (find x done') ≡ prefer (settling x (find x left)) (find x done)
  settle_step left left' done done' name d new here gone is put x = by (bytes_eq name x) refl
    where
      by : (b : Bool) → bytes_eq name x ≡ b →
          prefer (settling x (find x left')) (find x done') ≡ prefer (settling x (find x left)) (find x done)
      by true e =
          ap (λ o. prefer (settling x o) (find x done')) (found_here left left' name x None gone e)
          ∙ ap (λ o. prefer o (find x done')) (settled_none (find x one))
          ∙ found_here done done' name x (Some new) put e
          ∙ sym (ap (λ o. prefer (settling x o) (find x done)) (same_found left name x e ∙ here)
          ∙ settled_here (find x one) d new (find x done)
          (ap (λ o. settled way rest o (Some d)) (same_found one name x e) ∙ is))
      by false e =
          ap (λ o. prefer (settling x o) (find x done')) (found_other left left' name x None gone e)
          ∙ ap (prefer (settling x (find x left))) (found_other done done' name x (Some new) put e)

  prefer_none : (o : Option Dealings) → prefer o None ≡ o
  prefer_none None = refl
  prefer_none (Some d) = refl

  pub settle_init : (left done : List (Bytes × Dealings)) → done ≡ [] → (x : Bytes) →
      prefer (settling x (find x left)) (find x done) ≡ settling x (find x left)
  settle_init left done e x =
      ap (λ l. prefer (settling x (find x left)) (find x l)) e ∙ prefer_none (settling x (find x left))

  pub settle_end : (left done : List (Bytes × Dealings)) (x : Bytes) → left ≡ [] →
      prefer (settling x (find x left)) (find x done) ≡ find x done
  settle_end left done x e =
      ap (λ l. prefer (settling x (find x l)) (find x done)) e
      ∙ ap (λ o. prefer o (find x done)) (settled_none (find x one))

  -- nothing needs to be done behind a part that leaves any other as it is
  pub still_settled : ((e : Dealing) → by way rest e ≡ e) → (x : Bytes) (o : Option Dealings) → o ≡ settling x o
  still_settled still x o = on (find x one) o
    where
      on : (p o : Option Dealings) → o ≡ settled way rest p o
      on (Some d) o = refl
      on None None = refl
      on None (Some e) = ap Some (both_same (sym (still e.owned)) (sym (still e.free)))
        where
          both_same : {a b c d : Dealing} → a ≡ c → b ≡ d →
              ◌≡◌ {A = Dealings} (record { owned = a; free = b }) (record { owned = c; free = d })
          both_same p q = cc

type_by : (way : Way) (free : Bool) (d e : Dealings) → by_type free (by_both way d e)
    ≡ by way (by_type free d) (by_type free e)
type_by way true d e = refl
type_by way false d e = refl

type_alike : (free : Bool) (d : Dealing) → by_type free (alike d) ≡ d
type_alike true d = refl
type_alike false d = refl

together : (way : Way) (free : Bool) (p q : Option Dealings) (r s : Dealing) →
    or_rest free (absorbed (by_both way) s p (settled way r p q)) (by way r s) ≡ by way (or_rest free p r)
    (or_rest free q s)
together way free None None r s = refl
together way free None (Some e) r s =
    type_by way free (alike r) e ∙ ap (λ d. by way d (by_type free e)) (type_alike free r)
together way free (Some d) None r s = type_by way free d (alike s) ∙ ap (by way (by_type free d)) (type_alike free s)
together way free (Some d) (Some e) r s = type_by way free d e

-- two parts together
pub combined_seen : (way : Way) (one other d : Deals) (base : List (Bytes × Dealings)) →
    ((x : Bytes) → find x base ≡ settled way one.rest (find x one.named) (find x other.named)) →
    ((x : Bytes) → find x d.named ≡ absorbed (by_both way) other.rest (find x one.named) (find x base)) →
    d.rest ≡ by way one.rest other.rest → (x : Bytes) (free : Bool) (h : Hold) →
    seen_at d x free h ≡ by way (seen_at one x free h) (seen_at other x free h)
combined_seen way one other d base settles absorbs rests x free h = on h
  where
    held : or_rest free (find x d.named) d.rest
        ≡ by way (or_rest free (find x one.named) one.rest) (or_rest free (find x other.named) other.rest)
    held =
        ap (λ o. or_rest free o d.rest)
        (absorbs x ∙ ap (absorbed (by_both way) other.rest (find x one.named)) (settles x))
        ∙ ap (or_rest free (absorbed (by_both way) other.rest (find x one.named)
        (settled way one.rest (find x one.named) (find x other.named)))) rests
        ∙ together way free (find x one.named) (find x other.named) one.rest other.rest

    on : (h : Hold) → seen_at d x free h ≡ by way (seen_at one x free h) (seen_at other x free h)
    on unlent = held
    on read_lent = held
    on write_lent = held
    on hidden = rests

-- the turns of a loop
turned_rest : (free : Bool) (o : Option Dealings) (r s : Dealing) → or_rest free (settled ways.Turns r None o)
    (turns s) ≡ turns (or_rest free o s)
turned_rest free None r s = refl
turned_rest true (Some e) r s = refl
turned_rest false (Some e) r s = refl

pub turned_seen : (body d : Deals) (none : List (Bytes × Dealings)) (r : Dealing) → none ≡ [] →
    ((x : Bytes) → find x d.named ≡ settled ways.Turns r (find x none) (find x body.named)) →
    d.rest ≡ turns body.rest → (x : Bytes) (free : Bool) (h : Hold) →
    seen_at d x free h ≡ turns (seen_at body x free h)
turned_seen body d none r empty settles rests x free h = on h
  where
    held : or_rest free (find x d.named) d.rest ≡ turns (or_rest free (find x body.named) body.rest)
    held =
        ap (λ o. or_rest free o d.rest)
        (settles x ∙ ap (λ l. settled ways.Turns r (find x l) (find x body.named)) empty)
        ∙ ap (or_rest free (settled ways.Turns r None (find x body.named))) rests
        ∙ turned_rest free (find x body.named) r body.rest

    on : (h : Hold) → seen_at d x free h ≡ turns (seen_at body x free h)
    on unlent = held
    on read_lent = held
    on write_lent = held
    on hidden = rests

-- a step that doesn't touch a variable
untouched_step : (loop : Bool) (n : ℕ) (e : Dealing) → e ≡ chain n (once (kept_if loop Untouched)) e
untouched_step true n e = refl
untouched_step false n e = refl

step_rest : (loop : Bool) (n : ℕ) (free : Bool) (p : Option Touches) (q : Option Dealings) (s : Dealing) →
    or_rest free (absorbed (stepped loop n) s p q) s ≡ chain n (once (kept_if loop (touch_or_none free p)))
    (or_rest free q s)
step_rest loop n free None q s = untouched_step loop n (or_rest free q s)
step_rest loop n true (Some t) None s = refl
step_rest loop n false (Some t) None s = refl
step_rest loop n true (Some t) (Some e) s = refl
step_rest loop n false (Some t) (Some e) s = refl

-- a step and then a part
pub met_seen : (loop : Bool) (n : ℕ) (table : List (Bytes × Touches)) (other d : Deals) →
    ((x : Bytes) → find x d.named ≡ absorbed (stepped loop n) other.rest (find x table) (find x other.named)) →
    d.rest ≡ other.rest → (x : Bytes) (free : Bool) (h : Hold) →
    seen_at d x free h ≡ chain n (once (kept_if loop (unless_hidden h (touch_in table x free))))
    (seen_at other x free h)
met_seen loop n table other d absorbs rests x free h = on h
  where
    held : or_rest free (find x d.named) d.rest
        ≡ chain n (once (kept_if loop (touch_in table x free))) (or_rest free (find x other.named) other.rest)
    held =
        ap (λ o. or_rest free o d.rest) (absorbs x)
        ∙ ap (or_rest free (absorbed (stepped loop n) other.rest (find x table) (find x other.named))) rests
        ∙ step_rest loop n free (find x table) (find x other.named) other.rest

    on : (h : Hold) → seen_at d x free h
        ≡ chain n (once (kept_if loop (unless_hidden h (touch_in table x free)))) (seen_at other x free h)
    on unlent = held
    on read_lent = held
    on write_lent = held
    on hidden = rests ∙ untouched_step loop n other.rest

-- a name is forgotten
pub forgotten_seen : (old new : Deals) (name : Bytes) → Changes old.named new.named name None → new.rest ≡ old.rest →
    (x : Bytes) (free : Bool) (h : Hold) →
    seen_at new x free h ≡ seen_at old x free (held_from x (declared name ∷ []) h)
forgotten_seen old new name gone rests x free h = on (bytes_eq name x) h refl
  where
    other : bytes_eq name x ≡ false → or_rest free (find x new.named) new.rest
        ≡ or_rest free (find x old.named) old.rest
    other e =
        ap (λ o. or_rest free o new.rest) (found_other old.named new.named name x None gone e)
        ∙ ap (or_rest free (find x old.named)) rests

    here : bytes_eq name x ≡ true → or_rest free (find x new.named) new.rest ≡ old.rest
    here e = ap (λ o. or_rest free o new.rest) (found_here old.named new.named name x None gone e) ∙ rests

    at : (b : Bool) → bytes_eq name x ≡ b → (h : Hold) →
        seen_at old x free (if b then hidden else h) ≡ seen_at old x free (held_from x (declared name ∷ []) h)
    at b e h = ap (λ b. seen_at old x free (if b then hidden else h)) (sym e)

    on : (b : Bool) (h : Hold) → bytes_eq name x ≡ b →
        seen_at new x free h ≡ seen_at old x free (held_from x (declared name ∷ []) h)
    on true unlent e = here e ∙ at true e unlent
    on true read_lent e = here e ∙ at true e read_lent
    on true write_lent e = here e ∙ at true e write_lent
    on true hidden e = rests ∙ at true e hidden
    on false unlent e = other e ∙ at false e unlent
    on false read_lent e = other e ∙ at false e read_lent
    on false write_lent e = other e ∙ at false e write_lent
    on false hidden e = rests ∙ at false e hidden

type_or : (free : Bool) (o : Option Dealings) (r : Dealing) → by_type free (or_alike o r) ≡ or_rest free o r
type_or true None r = refl
type_or false None r = refl
type_or true (Some d) r = refl
type_or false (Some d) r = refl

-- a borrow statement is put round a part
pub lent_seen : (old new : Deals) (name : Bytes) (access : Access) (value : Dealings) →
    ((free : Bool) → by_type free value ≡ lend access (by_type free (or_alike (find name old.named) old.rest))) →
    Changes old.named new.named name (Some value) → new.rest ≡ old.rest → (x : Bytes) (free : Bool) (h : Hold) →
    seen_at new x free h ≡ lend_named x name access h (seen_at old x free h)
lent_seen old new name access value is put rests x free h = on (bytes_eq name x) h refl
  where
    other : bytes_eq name x ≡ false → or_rest free (find x new.named) new.rest
        ≡ or_rest free (find x old.named) old.rest
    other e =
        ap (λ o. or_rest free o new.rest) (found_other old.named new.named name x (Some value) put e)
        ∙ ap (or_rest free (find x old.named)) rests

    here : bytes_eq name x ≡ true →
        or_rest free (find x new.named) new.rest ≡ lend access (or_rest free (find x old.named) old.rest)
    here e =
        ap (λ o. or_rest free o new.rest) (found_here old.named new.named name x (Some value) put e)
        ∙ is free
        ∙ ap (lend access) (type_or free (find name old.named) old.rest
        ∙ ap (λ o. or_rest free o old.rest) (sym (same_found old.named name x e)))

    at : (b : Bool) → bytes_eq name x ≡ b → (h : Hold) (d : Dealing) →
        lend_by b access h d ≡ lend_named x name access h d
    at b e h d = ap (λ b. lend_by b access h d) (sym e)

    on : (b : Bool) (h : Hold) → bytes_eq name x ≡ b →
        seen_at new x free h ≡ lend_named x name access h (seen_at old x free h)
    on true unlent e = here e ∙ at true e unlent (seen_at old x free unlent)
    on true read_lent e = here e ∙ at true e read_lent (seen_at old x free read_lent)
    on true write_lent e = here e ∙ at true e write_lent (seen_at old x free write_lent)
    on false unlent e = other e ∙ at false e unlent (seen_at old x free unlent)
    on false read_lent e = other e ∙ at false e read_lent (seen_at old x free read_lent)
    on false write_lent e = other e ∙ at false e write_lent (seen_at old x free write_lent)
    on b hidden e = rests

-- how a variable is lent makes no difference to what is seen of it
pub seen_tighter : (d : Deals) (x : Bytes) (free : Bool) (access : Access) (h : Hold) →
    seen_at d x free (tighter access h) ≡ seen_at d x free h
seen_tighter d x free access h = on access h
  where
    on : (access : Access) (h : Hold) → seen_at d x free (tighter access h) ≡ seen_at d x free h
    on accesses.Read unlent = refl
    on accesses.Read read_lent = refl
    on accesses.Read write_lent = refl
    on accesses.Read hidden = refl
    on accesses.Write unlent = refl
    on accesses.Write read_lent = refl
    on accesses.Write write_lent = refl
    on accesses.Write hidden = refl

-- a borrow statement hides the name of its reference, and lends its variable
pub loan_seen : (old new : Deals) (x reference name : Bytes) (access : Access) (free : Bool) (h : Hold) →
    seen_at new x free h ≡ seen_at old x free (held_from x (declared reference ∷ []) h) →
    seen_at new x free h ≡ seen_at old x free (held_from x (declared reference ∷ lent access name ∷ []) h)
loan_seen old new x reference name access free h e =
    e ∙ by (bytes_eq reference x) (bytes_eq name x)
  where
    by : (b c : Bool) → seen_at old x free (if b then hidden else h)
        ≡ seen_at old x free (if b then hidden else (if c then tighter access h else h))
    by true c = refl
    by false true = sym (seen_tighter old x free access h)
    by false false = refl
