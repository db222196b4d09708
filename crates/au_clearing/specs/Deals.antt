-- How a part of a body deals with all variables.
use Rattle.std.specs.Prelude.{◌≡◌, ℕ, Bool, true, false, List, [], ◌∷◌, ◌++◌, map, reverse, Option, None}
use Rattle.std.specs.Prelude.{Some}
use Rattle.au_syntax.specs.Plain.{Bytes, PlainStatement, PlainStatements}
use Rattle.au_lives.specs.Lives.{Hold, unlent, read_lent, write_lent, hidden}
use Rattle.au_lives.specs.Scopes.{Scope}
use Rattle.au_clearing.specs.declared.touches.Touch.{Touch}
use Rattle.au_clearing.specs.declared.touches.Touch.TheVariants.{Untouched}
use Rattle.au_clearing.specs.declared.touches.Touches.{Touches}
use Rattle.au_clearing.specs.declared.dealings.Dealing.{Dealing}
use Rattle.au_clearing.specs.declared.dealings.Dealings.{Dealings}
use Rattle.au_clearing.specs.declared.dealings.Life.{Life}
use Rattle.au_clearing.specs.declared.deals.Deals.{Deals}
use Rattle.au_clearing.specs.declared.deals.Way.{Way}
use Rattle.au_clearing.specs.declared.deals.Way.TheVariants as ways
use Rattle.au_clearing.specs.Touches.{both, kept}
use Rattle.au_clearing.specs.Dealings.{once, chain, fork, turns, deal, deal_block, returns_in}
use Rattle.au_clearing.specs.Dealings.{returns_in_block, by_type, life_of}
use Rattle.au_clearing.specs.Tables.{find}

-- what is known of a name, or else how the part deals with a name that it doesn't mention
abbrev pub or_rest : Bool → Option Dealings → Dealing → Dealing
or_rest free None rest = rest
or_rest free (Some d) rest = by_type free d

-- how the part deals with a variable that is held so; with a name that is that of another, as with any name
-- that it doesn't mention
abbrev pub seen_at : Deals → Bytes → Bool → Hold → Dealing
seen_at d x free unlent = or_rest free (find x d.named) d.rest
seen_at d x free read_lent = or_rest free (find x d.named) d.rest
seen_at d x free write_lent = or_rest free (find x d.named) d.rest
seen_at d x free hidden = d.rest

-- the deals are those of a part that deals so with each variable, and has so many returns
pub record Sums (d : Deals) (part : Bytes → Bool → Hold → Dealing) (n : ℕ) : Type 0 where
  pub seen : (x : Bytes) (free : Bool) (h : Hold) → seen_at d x free h ≡ part x free h
  pub returns : d.returns ≡ n

-- how one step touches a variable whose type isn't Free, or is
abbrev pub by_touch : Bool → Touches → Touch
by_touch false t = t.owned
by_touch true t = t.free

-- how one step touches a name, by what is known of it
abbrev pub touch_or_none : Bool → Option Touches → Touch
touch_or_none free None = Untouched
touch_or_none free (Some t) = by_touch free t

abbrev pub touch_in : List (Bytes × Touches) → Bytes → Bool → Touch
touch_in table x free = touch_or_none free (find x table)

-- The lives of variables go on a pile, so that they lie on it in text order: those of some scopes, on those
-- that lay there before.
abbrev pub Piles : List Scope → List Life → List Life → Type 0
Piles scopes before after = reverse after ≡ map life_of scopes ++ reverse before

-- a step does more to a table's names
abbrev pub Meets : List (Bytes × Touches) → List (Bytes × Touches) → (Bytes → Bool → Touch) → Type 0
Meets old new step =
    (x : Bytes) (free : Bool) → touch_in new x free ≡ both (touch_in old x free) (step x free)

-- what may be consumed only once, in a loop
abbrev pub kept_if : Bool → Touch → Touch
kept_if false t = t
kept_if true t = kept t

-- how one part and another are put together, by name and for all other names
abbrev pub by : Way → Dealing → Dealing → Dealing
by (ways.Chain n) d e = chain n d e
by ways.Fork d e = fork d e
by ways.Turns d e = turns e

abbrev pub by_both : Way → Dealings → Dealings → Dealings
by_both way d e = record { owned = by way d.owned e.owned; free = by way d.free e.free }

abbrev pub alike : Dealing → Dealings
alike d = record { owned = d; free = d }

-- what one table has of a name, beside what another has of it that the first doesn't change
abbrev pub settled : Way → Dealing → Option Dealings → Option Dealings → Option Dealings
settled way rest (Some d) o = o
settled way rest None None = None
settled way rest None (Some e) = Some (by_both way (alike rest) e)

-- what a name has, or what all other names have
abbrev pub or_alike : Option Dealings → Dealing → Dealings
or_alike None rest = alike rest
or_alike (Some d) rest = d

-- what a name has behind a change by what one table has of it
abbrev pub absorbed : {A : Type 0} → (A → Dealings → Dealings) → Dealing → Option A → Option Dealings →
    Option Dealings
absorbed change rest None o = o
absorbed change rest (Some a) o = Some (change a (or_alike o rest))

-- a step and then a part, for both kinds of types
abbrev pub stepped : Bool → ℕ → Touches → Dealings → Dealings
stepped loop n t e = record {
  owned = chain n (once (kept_if loop t.owned)) e.owned;
  free = chain n (once (kept_if loop t.free)) e.free;
}

-- the deals are those of a block
abbrev pub SumsBlock : Deals → PlainStatements → Type 0
SumsBlock d b = Sums d (λ x free h. deal_block x free b h) (returns_in_block b)

-- the deals are those of a statement
abbrev pub SumsStatement : Deals → PlainStatement → Type 0
SumsStatement d s = Sums d (λ x free h. deal x free s h) (returns_in s)
