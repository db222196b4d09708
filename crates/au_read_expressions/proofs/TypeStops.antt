-- Reading a type stops where the steps token by token stop.
use Rattle.std.proofs.Common.{◌≡◌, ℕ, zero, suc, ◌<◌, ◌≤◌, Bool, true, false, cond, List, [], ◌∷◌, length}
use Rattle.std.proofs.Common.{Some, None, Result, Ok, Err, refl, sym, ap, subst, ◌∙◌, arith}
use Rattle.std.proofs.lemmas.Bool.{cond-true, cond-false}
use Rattle.au_base.specs.declared.tokens.Sign.TheVariants.{LeftBracket, RightBracket, Comma, ReadBorrow}
use Rattle.au_base.specs.declared.tokens.Sign.TheVariants.{WriteBorrow}
use Rattle.au_base.specs.declared.tokens.Token.{Token}
use Rattle.au_base.specs.declared.tokens.What.{What}
use Rattle.au_base.specs.declared.tokens.What.TheVariants.{Sign, Name}
use Rattle.au_syntax.specs.declared.types.Access.{Access}
use Rattle.au_syntax.specs.declared.types.Access.TheVariants as access
use Rattle.au_syntax.specs.Names.{Placed}
use Rattle.au_syntax.specs.Plain.{Bytes}
use Rattle.au_syntax.specs.Types.{WrittenType}
use Rattle.au_syntax.specs.Words.{access_sign}
use Rattle.au_read_expressions.specs.declared.faults.Fault.{Fault}
use Rattle.au_read_expressions.specs.declared.faults.Fault.TheVariants.{Syntax, Passed}
use Rattle.au_read_expressions.specs.Bounds.{Bounds}
use Rattle.au_read_expressions.specs.Reading.{Read, ◌>>=◌, no, same_what, begins_with, token_at, tokens_at}
use Rattle.au_read_expressions.specs.Reading.{value_or_no, name_of, name_at, read_of, behind_tokens, closed_at, closed}
use Rattle.au_read_expressions.specs.Reading.{joined_with, joined_at, pair, built_at, before_all, after_part}
use Rattle.au_read_expressions.specs.Reading.{separated_at, listed, bracketed}
use Rattle.au_read_expressions.proofs.Steps.{given, token_again}
use Rattle.au_read_expressions.specs.TypeReading.{named_of, reference_of, named_with, reference_with, type_by}
use Rattle.au_read_expressions.specs.TypeReading.{type_with, type_within, left_at}
use Rattle.au_read_expressions.specs.TypeStops.{Place, begun, behind_type, next, stops}
use Rattle.au_read_expressions.specs.declared.stops.Awaits.TheVariants as awaits
use Rattle.au_read_expressions.specs.declared.stops.Within.{Within}
use Rattle.au_read_expressions.specs.declared.stops.Within.TheVariants as within

-- What a reader gives where so many tokens are left when reading stops: it tells no limit, what doesn't read
-- stops with so many left, and this holds of the tokens behind what is read.
abbrev pub Goes : {A : Type 0} → ℕ → (A → List Token) → (List Token → Type 0) → Result A Fault → Type 0
Goes n see Holds (Ok x) = Holds (see x)
Goes n see Holds (Err (Syntax left)) = n ≡ left
Goes n see Holds (Err (Passed l left)) = ⊥

-- From this place on so many tokens are left when reading stops. These tokens are fewer than the second
-- number.
abbrev pub At : ℕ → ℕ → Place → List Token → Type 0
At n m place ts = (n ≡ stops (Some place) ts) × (length ts < m)

-- the tokens behind what was read
abbrev rest_of : {A : Type 0} → A × List Token → List Token
rest_of x = x.1

abbrev all_of : List Token → List Token
all_of ts = ts

-- one step, and then another
goes_on : {A B : Type 0} (n : ℕ) (see : A → List Token) (P : List Token → Type 0) (other : B → List Token)
    (Q : List Token → Type 0) (r : Result A Fault) (f : A → Result B Fault)
    → Goes n see P r → ((x : A) → P (see x) → Goes n other Q (f x)) → Goes n other Q (r >>= f)
goes_on n see P other Q (Ok x) f h on = on x h
goes_on n see P other Q (Err (Syntax left)) f h on = h
goes_on n see P other Q (Err (Passed l left)) f h on = absurd h

-- ---- one token

-- at the place this token alone may stand, with the other place behind it
abbrev Allows : Place → What → Place → List Token → Type 0
Allows place what other [] = Unit {0}
Allows place what other (t ∷ ts) = next place t.what ≡ cond (same_what t.what what) (Some other) None

allowed : (place : Place) (what : What) (other : Place)
    → ((w : What) → next place w ≡ cond (same_what w what) (Some other) None) → (ts : List Token)
    → Allows place what other ts
allowed place what other is [] = tt
allowed place what other is (t ∷ ts) = is t.what

token_goes : (n m : ℕ) (place : Place) (what : What) (other : Place) (ts : List Token) → At n m place ts
    → Allows place what other ts → Goes n all_of (At n m other) (token_at what ts)
token_goes n m place what other [] h may = h.0
token_goes n m place what other (t ∷ ts) h may = token_by (same_what t.what what) refl
  where
    token_by : (test : Bool) → same_what t.what what ≡ test
        → Goes n all_of (At n m other) (token_at what (t ∷ ts))
    token_by true is =
        subst (Goes n all_of (At n m other))
        (sym (cond-true (same_what t.what what) (given ts) (no (t ∷ ts)) is)) (
          h.0 ∙ ap (λ p. stops p ts) (may ∙ cond-true (same_what t.what what) (Some other) None is),
          omega (arith, h.1),
        )
    token_by false is =
        subst (Goes n all_of (At n m other))
        (sym (cond-false (same_what t.what what) (given ts) (no (t ∷ ts)) is))
        (h.0 ∙ ap (λ p. stops p ts) (may ∙ cond-false (same_what t.what what) (Some other) None is))

one_goes : (n m : ℕ) (place : Place) (what : What) (other : Place) (ts : List Token) → At n m place ts
    → Allows place what other ts → Goes n all_of (At n m other) (tokens_at (what ∷ []) ts)
one_goes n m place what other ts h may =
    goes_on n all_of (At n m other) all_of (At n m other) (token_at what ts) (tokens_at [])
    (token_goes n m place what other ts h may) (λ rest e. e)

closed_goes : {A : Type 0} (n m : ℕ) (place : Place) (what : What) (other : Place) (x : A × List Token)
    → At n m place x.1 → Allows place what other x.1 → Goes n rest_of (At n m other) (closed_at (what ∷ []) x)
closed_goes n m place what other x h may =
    goes_on n all_of (At n m other) rest_of (At n m other) (tokens_at (what ∷ []) x.1) (read_of x.0)
    (one_goes n m place what other x.1 h may) (λ rest e. e)

-- ---- the region of a reference

name_goes : (n m : ℕ) (inside : List Within) (ts : List Token) → At n m (awaits.Region, inside) ts
    → Goes n rest_of (At n m (awaits.Close, inside)) (name_at ts)
name_goes n m inside [] h = h.0
name_goes n m inside (t ∷ ts) h = name_by t.what h.0
  where
    name_by : (w : What) → n ≡ stops (next (awaits.Region, inside) w) ts
        → Goes n rest_of (At n m (awaits.Close, inside)) (value_or_no (t ∷ ts) (name_of w t.at))
    name_by (Name bytes) e = (e, omega (arith, h.1))
    name_by other e = e

abbrev closed_name : List Token → Read (Placed Bytes)
closed_name = closed (Sign RightBracket ∷ []) name_at

region_goes : (n m : ℕ) (inside : List Within) (ts : List Token)
    → At n m (awaits.Behind, within.Target ∷ inside) ts
    → Goes n rest_of (At n m (awaits.Behind, inside)) (behind_tokens (Sign Comma ∷ []) closed_name ts)
region_goes n m inside ts h =
    goes_on n all_of (At n m (awaits.Region, inside)) rest_of (At n m (awaits.Behind, inside))
    (tokens_at (Sign Comma ∷ []) ts) closed_name
    (one_goes n m (awaits.Behind, within.Target ∷ inside) (Sign Comma) (awaits.Region, inside) ts h
    (allowed (awaits.Behind, within.Target ∷ inside) (Sign Comma) (awaits.Region, inside) (λ w. refl) ts))
    (λ next e. goes_on n rest_of (At n m (awaits.Close, inside)) rest_of (At n m (awaits.Behind, inside))
    (name_at next) (closed_at (Sign RightBracket ∷ []))
    (name_goes n m inside next e)
    (λ x c. closed_goes n m (awaits.Close, inside) (Sign RightBracket) (awaits.Behind, inside) x c
    (allowed (awaits.Close, inside) (Sign RightBracket) (awaits.Behind, inside) (λ w. refl) x.1)))

-- ---- what has types as parts

-- how a reader of types goes on where there are no more than so many tokens
abbrev pub Inside : ℕ → (List Token → Read WrittenType) → Type 0
Inside d inner =
    (n : ℕ) (inside : List Within) (ts : List Token) → length ts ≤ d
    → n ≡ stops (Some (awaits.Type, inside)) ts
    → Goes n rest_of (At n (length ts) (awaits.Behind, inside)) (inner ts)

-- behind the last argument no comma stands
abbrev Ended : ℕ → ℕ → List Within → List Token → Type 0
Ended n m inside ts =
    At n m (awaits.Behind, within.Arguments ∷ inside) ts × (begins_with (Sign Comma) ts ≡ false)

right_allowed : (inside : List Within) (ts : List Token) → begins_with (Sign Comma) ts ≡ false
    → Allows (awaits.Behind, within.Arguments ∷ inside) (Sign RightBracket) (awaits.Behind, inside) ts
right_allowed inside [] last = tt
right_allowed inside (t ∷ ts) last =
    cond-false (same_what t.what (Sign Comma)) (Some (awaits.Type, within.Arguments ∷ inside))
    (cond (same_what t.what (Sign RightBracket)) (Some (awaits.Behind, inside)) None) last

module _ (d : ℕ) (inner : List Token → Read WrittenType) (reads : Inside d inner) where
  -- what stands behind an argument
  after_goes : (n m : ℕ) (inside : List Within) (k : ℕ)
      → ((ts : List Token) → length ts ≤ k → At n m (awaits.Type, within.Arguments ∷ inside) ts
      → Goes n rest_of (Ended n m inside) (separated_at (Sign Comma) inner k ts))
      → (x : WrittenType) (ts : List Token) → length ts ≤ k
      → At n m (awaits.Behind, within.Arguments ∷ inside) ts
      → Goes n rest_of (Ended n m inside)
      (after_part (Sign Comma) (separated_at (Sign Comma) inner k) (x, ts))
  after_goes n m inside k others x [] short h = (h, refl)
  after_goes n m inside k others x (t ∷ ts) short h = after_by (same_what t.what (Sign Comma)) refl
    where
      more : Read (List WrittenType)
      more = separated_at (Sign Comma) inner k ts >>= before_all x

      after_by : (test : Bool) → same_what t.what (Sign Comma) ≡ test
          → Goes n rest_of (Ended n m inside)
          (after_part (Sign Comma) (separated_at (Sign Comma) inner k) (x, t ∷ ts))
      after_by true is =
          subst (Goes n rest_of (Ended n m inside))
          (sym (cond-true (same_what t.what (Sign Comma)) more (read_of (x ∷ []) (t ∷ ts)) is))
          (goes_on n rest_of (Ended n m inside) rest_of (Ended n m inside)
          (separated_at (Sign Comma) inner k ts) (before_all x)
          (others ts (omega (arith, short)) (
            h.0 ∙ ap (λ p. stops p ts)
                (cond-true (same_what t.what (Sign Comma)) (Some (awaits.Type, within.Arguments ∷ inside))
                (cond (same_what t.what (Sign RightBracket)) (Some (awaits.Behind, inside)) None) is),
            omega (arith, h.1),
          ))
          (λ y e. e))
      after_by false is =
          subst (Goes n rest_of (Ended n m inside))
          (sym (cond-false (same_what t.what (Sign Comma)) more (read_of (x ∷ []) (t ∷ ts)) is)) (h, is)

  -- arguments with commas between
  list_goes : (n m : ℕ) (inside : List Within) → m ≤ suc d → (k : ℕ) (ts : List Token) → length ts ≤ k
      → At n m (awaits.Type, within.Arguments ∷ inside) ts
      → Goes n rest_of (Ended n m inside) (separated_at (Sign Comma) inner k ts)
  list_goes n m inside small zero [] short h = h.0
  list_goes n m inside small zero (t ∷ ts) short h = absurd (let wrong : ⊥ = omega (arith, short) in wrong)
  list_goes n m inside small (suc k) ts short h =
      goes_on n rest_of (At n (length ts) (awaits.Behind, within.Arguments ∷ inside))
      rest_of (Ended n m inside) (inner ts) (after_part (Sign Comma) (separated_at (Sign Comma) inner k))
      (reads n (within.Arguments ∷ inside) ts (omega (arith, small, h.1)) h.0)
      (λ x e. after_goes n m inside k (list_goes n m inside small k) x.0 x.1 (omega (arith, short, e.1))
      (e.0, omega (arith, h.1, e.1)))

  -- arguments in brackets, or none
  args_goes : (n : ℕ) (inside : List Within) (ts : List Token) → length ts ≤ d
      → n ≡ stops (Some (awaits.Arguments, inside)) ts
      → Goes n rest_of (At n (suc (length ts)) (awaits.Behind, inside))
      (bracketed LeftBracket RightBracket inner ts)
  args_goes n inside [] short e = (e, omega arith)
  args_goes n inside (t ∷ ts) short e = args_by (same_what t.what (Sign LeftBracket)) refl
    where
      m : ℕ
      m = suc (suc (length ts))

      inner_args : Read (List WrittenType)
      inner_args = listed inner ts >>= closed_at (Sign RightBracket ∷ [])

      args_by : (test : Bool) → same_what t.what (Sign LeftBracket) ≡ test
          → Goes n rest_of (At n m (awaits.Behind, inside))
          (bracketed LeftBracket RightBracket inner (t ∷ ts))
      args_by true is =
          subst (Goes n rest_of (At n m (awaits.Behind, inside)))
          (sym (cond-true (same_what t.what (Sign LeftBracket)) inner_args (read_of [] (t ∷ ts)) is))
          (goes_on n rest_of (Ended n m inside) rest_of (At n m (awaits.Behind, inside))
          (listed inner ts) (closed_at (Sign RightBracket ∷ []))
          (list_goes n m inside (omega (arith, short)) (length ts) ts (omega arith) (
            e ∙ ap (λ p. stops p ts)
                (cond-true (same_what t.what (Sign LeftBracket))
                (Some (awaits.Type, within.Arguments ∷ inside)) (behind_type inside t.what) is),
            omega arith,
          ))
          (λ x h. closed_goes n m (awaits.Behind, within.Arguments ∷ inside) (Sign RightBracket)
          (awaits.Behind, inside) x h.0 (right_allowed inside x.1 h.1)))
      args_by false is =
          subst (Goes n rest_of (At n m (awaits.Behind, inside)))
          (sym (cond-false (same_what t.what (Sign LeftBracket)) inner_args (read_of [] (t ∷ ts)) is)) (
            e ∙ ap (λ p. stops p ts)
                (cond-false (same_what t.what (Sign LeftBracket))
                (Some (awaits.Type, within.Arguments ∷ inside)) (behind_type inside t.what) is),
            omega arith,
          )

  -- a name and its arguments
  named_goes : (n : ℕ) (inside : List Within) (bytes : Bytes) (t : Token) (ts : List Token)
      → t.what ≡ Name bytes → length ts ≤ d → n ≡ stops (Some (awaits.Arguments, inside)) ts
      → Goes n rest_of (At n (suc (length ts)) (awaits.Behind, inside)) (named_with inner (t ∷ ts))
  named_goes n inside bytes t ts is short e =
      subst (λ r. Goes n rest_of (At n m (awaits.Behind, inside))
      ((r >>= joined_at arguments) >>= built_at named_of))
      (sym one)
      (goes_on n rest_of (At n m (awaits.Behind, inside)) rest_of (At n m (awaits.Behind, inside))
      (arguments ts >>= joined_with name) (built_at named_of)
      (goes_on n rest_of (At n m (awaits.Behind, inside)) rest_of (At n m (awaits.Behind, inside))
      (arguments ts) (joined_with name) (args_goes n inside ts short e) (λ y h. h))
      (λ y h. h))
    where
      m : ℕ
      m = suc (length ts)

      name : Placed Bytes
      name = record { name = bytes; at = t.at }

      arguments : List Token → Read (List WrittenType)
      arguments = bracketed LeftBracket RightBracket inner

      one : name_at (t ∷ ts) ≡ Ok (name, ts)
      one = ap (λ w. value_or_no (t ∷ ts) (name_of w t.at)) is

  -- a reference
  abbrev target_at : List Token → Read (WrittenType × Placed Bytes)
  target_at = pair inner (behind_tokens (Sign Comma ∷ []) closed_name)

  target_goes : (n m : ℕ) (inside : List Within) → m ≤ suc d → (ts : List Token)
      → At n m (awaits.Type, within.Target ∷ inside) ts
      → Goes n rest_of (At n m (awaits.Behind, inside)) (target_at ts)
  target_goes n m inside small ts h =
      goes_on n rest_of (At n (length ts) (awaits.Behind, within.Target ∷ inside))
      rest_of (At n m (awaits.Behind, inside))
      (inner ts) (joined_at (behind_tokens (Sign Comma ∷ []) closed_name))
      (reads n (within.Target ∷ inside) ts (omega (arith, small, h.1)) h.0)
      (λ x e. goes_on n rest_of (At n m (awaits.Behind, inside)) rest_of (At n m (awaits.Behind, inside))
      (behind_tokens (Sign Comma ∷ []) closed_name x.1) (joined_with x.0)
      (region_goes n m inside x.1 (e.0, omega (arith, h.1, e.1))) (λ y r. r))

  reference_goes : (n : ℕ) (inside : List Within) (mode : Access) (t : Token) (ts : List Token)
      → t.what ≡ Sign (access_sign mode) → length ts ≤ d → n ≡ stops (Some (awaits.Target, inside)) ts
      → Goes n rest_of (At n (suc (length ts)) (awaits.Behind, inside)) (reference_with inner mode (t ∷ ts))
  reference_goes n inside mode t ts is short e =
      subst (λ r. Goes n rest_of (At n m (awaits.Behind, inside))
      (((r >>= tokens_at (Sign LeftBracket ∷ [])) >>= target_at) >>= built_at (reference_of mode t.at)))
      (sym (token_again (Sign (access_sign mode)) t ts is))
      (goes_on n rest_of (At n m (awaits.Behind, inside)) rest_of (At n m (awaits.Behind, inside))
      (behind_tokens (Sign LeftBracket ∷ []) target_at ts) (built_at (reference_of mode t.at))
      (goes_on n all_of (At n m (awaits.Type, within.Target ∷ inside))
      rest_of (At n m (awaits.Behind, inside)) (tokens_at (Sign LeftBracket ∷ []) ts) target_at
      (one_goes n m (awaits.Target, inside) (Sign LeftBracket) (awaits.Type, within.Target ∷ inside) ts
      (e, omega arith)
      (allowed (awaits.Target, inside) (Sign LeftBracket) (awaits.Type, within.Target ∷ inside) (λ w. refl)
      ts))
      (λ next h. target_goes n m inside (omega (arith, short)) next h))
      (λ y h. h))
    where
      m : ℕ
      m = suc (length ts)

  -- by the first token
  by_goes : (n : ℕ) (inside : List Within) (what : What) (t : Token) (ts : List Token) → t.what ≡ what
      → length ts ≤ d → n ≡ stops (begun inside what) ts
      → Goes n rest_of (At n (suc (length ts)) (awaits.Behind, inside)) (type_by inner (Some what) (t ∷ ts))
  by_goes n inside (Name bytes) t ts is short e = named_goes n inside bytes t ts is short e
  by_goes n inside (Sign ReadBorrow) t ts is short e = reference_goes n inside access.Read t ts is short e
  by_goes n inside (Sign WriteBorrow) t ts is short e = reference_goes n inside access.Write t ts is short e
  by_goes n inside other t ts is short e = e

-- ---- a type

pub within_goes : (b : Bounds) (d n : ℕ) (inside : List Within) (ts : List Token) → length ts ≤ d
    → n ≡ stops (Some (awaits.Type, inside)) ts
    → Goes n rest_of (At n (length ts) (awaits.Behind, inside)) (type_within b d ts)
unfolding type_within type_with
within_goes b zero n inside [] short e = e
within_goes b zero n inside (t ∷ ts) short e = absurd (let wrong : ⊥ = omega (arith, short) in wrong)
within_goes b (suc d) n inside [] short e = e
within_goes b (suc d) n inside (t ∷ ts) short e =
    by_goes d (type_within b d) (within_goes b d) n inside t.what t ts refl (omega (arith, short)) e

-- behind a type that stands in no other one reading stops
behind_all : (ts : List Token) → stops (Some (awaits.Behind, [])) ts ≡ length ts
behind_all [] = refl
behind_all (t ∷ ts) = refl

goes_left : (n m : ℕ) (read : Read WrittenType) → Goes n rest_of (At n m (awaits.Behind, [])) read
    → n ≡ left_at read
goes_left n m (Ok x) h = h.0 ∙ behind_all x.1
goes_left n m (Err (Syntax left)) h = h
goes_left n m (Err (Passed l left)) h = absurd h

-- where as many levels are left as there are tokens, reading stops where the steps do
pub reading_stops : (b : Bounds) (tokens : List Token)
    → stops (Some (awaits.Type, [])) tokens ≡ left_at (type_within b (length tokens) tokens)
reading_stops b tokens =
    goes_left (stops (Some (awaits.Type, [])) tokens) (length tokens) (type_within b (length tokens) tokens)
    (within_goes b (length tokens) (stops (Some (awaits.Type, [])) tokens) [] tokens (omega arith) refl)
