-- What is told of expressions and calls, with so many levels left.
use Rattle.std.proofs.Common.{◌≡◌, ℕ, zero, suc, Bool, true, false, List, [], ◌∷◌, ◌++◌, length, Some, Ok}
use Rattle.std.proofs.Common.{Err, refl, arith, ◌+◌, inl, inr}
use Rattle.au_base.specs.declared.places.Pos.{Pos}
use Rattle.au_base.specs.declared.tokens.Keyword.TheVariants.{KwIf, KwThen, KwElse, KwNot, KwTrue, KwFalse}
use Rattle.au_base.specs.declared.tokens.Keyword.TheVariants.{KwNil}
use Rattle.au_base.specs.declared.tokens.Sign.TheVariants.{LeftParenthesis, RightParenthesis, Minus}
use Rattle.au_base.specs.declared.tokens.Sign.TheVariants.{Exclamation, ReadBorrow, WriteBorrow, Reborrow}
use Rattle.au_base.specs.declared.tokens.Token.{Token}
use Rattle.au_base.specs.declared.tokens.What.{What}
use Rattle.au_base.specs.declared.tokens.What.TheVariants.{Word, Sign, Name, Number, Text}
use Rattle.au_syntax.specs.Expressions.{call, no_expressions}
use Rattle.au_syntax.specs.Names.{Placed}
use Rattle.au_syntax.specs.Plain.{Bytes, PlainExpression}
use Rattle.std.specs.Prelude.{codes, pos}
use Rattle.au_syntax.specs.declared.expressions.BorrowMode.TheVariants as mode
use Rattle.au_syntax.specs.Expressions as tree
use Rattle.au_parser.specs.Measures.{call_measures}
use Rattle.au_parser.specs.Passing.{passed_by, KeepOver, PassBehind, of_nesting}
use Rattle.au_read_expressions.specs.Bounds.{Bounds, nesting_limit}
use Rattle.au_read_expressions.specs.Reading.{Read, ◌>>=◌, no, same_what, begins_with, name_at}
use Rattle.au_read_expressions.specs.TypeStops.{is_name}
use Rattle.au_read_expressions.specs.ExpressionReading.{begins_expression, begins_atom, site, too_deep}
use Rattle.au_read_expressions.specs.ExpressionReading.{expression_at, atom_at, no_call, call_at}
use Rattle.au_read_expressions.proofs.Steps.{same_is}
use Rattle.au_parser.proofs.Told.{Is, Example, Begun, Tells, Past, Alike, Agrees, Honest, Grows}
use Rattle.au_parser.proofs.Told.{token_of, bind_tells, past_alike, bind_alike}
use Rattle.au_parser.proofs.Ways.{no_alike}
use Rattle.au_parser.proofs.FirstTokens.{Starts, deep_honest, Opens, bind_opens}
use Rattle.au_parser.proofs.Single.{name_kind, name_honest, name_opens, name_example, a_name}
use Rattle.au_parser.proofs.Levels.{passing}
use Rattle.au_parser.proofs.ExpressionKinds.{expression_kind, atom_kind, call_kind, expression_example}
use Rattle.au_parser.proofs.ExpressionKinds.{atom_example}
use Rattle.au_parser.proofs.Arguments.{Left}
use Rattle.au_parser.proofs.Atoms.{call_with_honest, call_with_opens, atom_with_honest}
use Rattle.au_parser.proofs.Expressions.{expression_with_honest, expression_with_takes, atom_is}

-- ---- where no level is left

abbrev nowhere : Pos
nowhere = record { file = 0; line = 0; column = 0 }

abbrev some_name : Token
some_name = token_of (Name (codes "a"))

module _ (b : Bounds) where
  atom_starts : (w : What) (t : Token) → t.what ≡ w → begins_atom (Some w) ≡ true →
      Starts (passing b 0) atom_kind of_nesting t
  atom_starts (Number value digits) t is e = record {
    rest = [];
    tree = tree.number (site t.at) (record { value = value; digits = digits });
    is = record { words = ((is, (refl, tt)), tt); good = refl };
    passes = refl;
  }
  atom_starts (Text bytes) t is e = record {
    rest = [];
    tree = tree.text (site t.at) bytes;
    is = record { words = ((is, (refl, tt)), tt); good = refl };
    passes = refl;
  }
  atom_starts (Name bytes) t is e = record {
    rest = [];
    tree = tree.path (site t.at) (record { name = bytes; at = t.at }) [];
    is = record { words = ((is, (refl, (refl, tt))), tt); good = refl };
    passes = refl;
  }
  atom_starts (Word KwTrue) t is e = record {
    rest = [];
    tree = tree.truth (site t.at) true;
    is = record { words = ((is, (refl, tt)), tt); good = refl };
    passes = refl;
  }
  atom_starts (Word KwFalse) t is e = record {
    rest = [];
    tree = tree.truth (site t.at) false;
    is = record { words = ((is, (refl, tt)), tt); good = refl };
    passes = refl;
  }
  atom_starts (Word KwNil) t is e = record {
    rest = [];
    tree = tree.nil (site t.at);
    is = record { words = ((is, (refl, tt)), tt); good = refl };
    passes = refl;
  }
  atom_starts (Sign Minus) t is e = record {
    rest = token_of (Number (pos 0) 1) ∷ [];
    tree = tree.negative (site t.at) (record { value = pos 0; digits = 1 });
    is = record { words = ((is, (refl, tt)), ((refl, tt), tt)); good = refl };
    passes = refl;
  }
  atom_starts (Sign LeftParenthesis) t is e = record {
    rest = token_of (Word KwNil) ∷ token_of (Sign RightParenthesis) ∷ [];
    tree = tree.parenthesized (site t.at) (tree.nil (site nowhere));
    is = record { words = ((is, (refl, tt)), ((refl, (refl, tt)), ((refl, tt), tt))); good = refl };
    passes = refl;
  }
  atom_starts (Sign Exclamation) t is e = record {
    rest = token_of (Word KwNil) ∷ [];
    tree = tree.dereference (site t.at) (tree.nil (site nowhere));
    is = record { words = ((is, (refl, tt)), ((refl, (refl, tt)), tt)); good = refl };
    passes = refl;
  }
  atom_starts (Sign ReadBorrow) t is e = record {
    rest = some_name ∷ [];
    tree = tree.borrow (site t.at) mode.Read a_name;
    is = record { words = ((is, (refl, tt)), ((refl, (refl, tt)), tt)); good = refl };
    passes = refl;
  }
  atom_starts (Sign WriteBorrow) t is e = record {
    rest = some_name ∷ [];
    tree = tree.borrow (site t.at) mode.Write a_name;
    is = record { words = ((is, (refl, tt)), ((refl, (refl, tt)), tt)); good = refl };
    passes = refl;
  }
  atom_starts (Sign Reborrow) t is e = record {
    rest = some_name ∷ [];
    tree = tree.borrow (site t.at) mode.Reborrow a_name;
    is = record { words = ((is, (refl, tt)), ((refl, (refl, tt)), tt)); good = refl };
    passes = refl;
  }
  atom_starts other t is e = absurd cc

  atom_start : (w : What) (t : Token) → t.what ≡ w → begins_atom (Some w) ≡ true →
      Starts (passing b 0) expression_kind of_nesting t
  atom_start w t is e =
      let s = atom_starts w t is e in
      record { rest = s.rest; tree = s.tree; is = atom_is s.tree (t ∷ s.rest) s.is; passes = s.passes }

  expression_starts : (w : What) (t : Token) → t.what ≡ w → begins_expression (Some w) ≡ true →
      Starts (passing b 0) expression_kind of_nesting t
  expression_starts (Word KwNot) t is e = record {
    rest = token_of (Word KwNil) ∷ [];
    tree = tree.negation (site t.at) (tree.nil (site nowhere));
    is = record { words = ((is, (refl, tt)), ((refl, (refl, tt)), tt)); good = refl };
    passes = refl;
  }
  expression_starts (Word KwIf) t is e = record {
    rest = token_of (Word KwNil) ∷ token_of (Word KwThen) ∷ token_of (Word KwNil) ∷ token_of (Word KwElse)
        ∷ token_of (Word KwNil) ∷ [];
    tree = tree.choice (site t.at) (tree.nil (site nowhere)) (tree.nil (site nowhere)) (tree.nil (site nowhere));
    is = record {
      words = (
        (is, (refl, tt)),
        (
          (refl, (refl, tt)),
          (
            (refl, tt),
            (
              (refl, (refl, tt)),
              (
                (refl, tt),
                ((refl, (refl, tt)), tt),
              ),
            ),
          ),
        ),
      );
      good = refl;
    };
    passes = refl;
  }
  expression_starts w t is e = atom_start w t is e

-- ---- with so many levels left

-- what is told where so many levels are left
pub record Level (b : Bounds) (n : ℕ) : Type 0 where
  pub expressions : Honest (passing b n) expression_kind (expression_at b n)
  pub atoms : Honest (passing b n) atom_kind (atom_at b n)
  pub takes : (t : Token) (ts : List Token) (bytes : Bytes) → t.what ≡ Name bytes → Past (length ts)
      (expression_at b n (t ∷ ts))
  pub left : Left b n (expression_at b n)

module _ (b : Bounds) where
  deep_takes : (w : What) (t : Token) (ts : List Token) (bytes : Bytes) → w ≡ Name bytes →
      Past (length ts) (too_deep b (begins_expression (Some w)) (t ∷ ts))
  deep_takes (Name other) t ts bytes e = tt
  deep_takes w t ts bytes e = absurd cc

  first_level : Level b zero
  unfolding expression_at atom_at
  first_level = record {
    expressions = deep_honest (passing b 0) expression_kind expression_example begins_expression (nesting_limit b) of_nesting refl
        (λ ts. refl) (λ t e. expression_starts b t.what t refl e);
    atoms = deep_honest (passing b 0) atom_kind atom_example begins_atom (nesting_limit b) of_nesting refl
        (λ ts. refl) (λ t e. atom_starts b t.what t refl e);
    takes = λ t ts bytes is. deep_takes t.what t ts bytes is;
    left = inr (record { none = refl; reads = λ ts. refl });
  }

  next_level : (n : ℕ) → Level b n → Level b (suc n)
  unfolding expression_at atom_at
  next_level n l = record {
    expressions = expression_with_honest b n (expression_at b n) (atom_at b n) l.expressions l.atoms l.takes l.left;
    atoms = atom_with_honest b n (expression_at b n) (atom_at b n) l.expressions l.atoms l.takes l.left;
    takes = λ t ts bytes is. expression_with_takes b n (expression_at b n) (atom_at b n) l.expressions l.atoms
        l.takes l.left t ts bytes is;
    left = inl (n, refl);
  }

  pub levels : (n : ℕ) → Level b n
  levels zero = first_level
  levels (suc n) = next_level n (levels n)

  -- ---- calls

  abbrev signs : List Token
  signs = record { what = Sign LeftParenthesis; at = record { file = 0; line = 0; column = 0 } }
      ∷ record { what = Sign RightParenthesis; at = record { file = 0; line = 0; column = 0 } } ∷ []

  abbrev bare : Placed Bytes → PlainExpression
  bare x = call (site x.at) x no_expressions tt

  -- a name with nothing in parentheses
  bare_call : (x : Placed Bytes) (us : List Token) (t : Token) → t.what ≡ Sign LeftParenthesis → Is name_kind x us →
      Is call_kind (bare x) (us ++ t ∷ token_of (Sign RightParenthesis) ∷ [])
  bare_call x [] t e h = absurd (let wrong = h.words in wrong)
  bare_call x (u ∷ []) t e h = record {
    words = ((h.words.0.0, (h.words.0.1.0, h.words.0.1)), ((e, tt), ((refl, tt), tt)));
    good = refl;
  }
  bare_call x (u ∷ v ∷ us) t e h = absurd (let wrong = h.words.1 in wrong)

  bare_front : (x : Placed Bytes) (us : List Token) → Is name_kind x us → Grows name_kind call_kind x us
  bare_front x us h = record {
    rest = signs;
    tree = bare x;
    is = bare_call x us (token_of (Sign LeftParenthesis)) refl h;
    words = (_, inr (x.at, refl));
  }

  call_example : Example call_kind
  call_example = record {
    tree = bare a_name;
    tokens = name_example.tokens ++ signs;
    is = bare_call a_name name_example.tokens (token_of (Sign LeftParenthesis)) refl name_example.is;
  }

  -- the name passes nothing
  name_over : (x : Placed Bytes) (us : List Token) → Is name_kind x us →
      KeepOver (passed_by b 0) us (call_measures (bare x))
  name_over x [] h = tt
  name_over x (u ∷ []) h = ((passing b 0).plain (record { what = Name x.name; places = x.at ∷ x.at ∷ [] }), tt)
  name_over x (u ∷ v ∷ us) h = absurd (let wrong = h.words.1 in wrong)

  -- the parenthesis does
  name_passes : (x : Placed Bytes) (us : List Token) → Is name_kind x us →
      PassBehind (passed_by b 0) of_nesting us (call_measures (bare x))
  name_passes x [] h = absurd (let wrong = h.words in wrong)
  name_passes x (u ∷ []) h = ((passing b 0).plain (record { what = Name x.name; places = x.at ∷ x.at ∷ [] }), refl)
  name_passes x (u ∷ v ∷ us) h = absurd (let wrong = h.words.1 in wrong)

  no_begun : (x : Placed Bytes) (ts us rest : List Token) → ts ≡ us ++ rest → Is name_kind x us →
      Begun (passing b 0) call_kind ts (length rest)
  no_begun x ts us rest same is = record {
    front = us;
    back = rest;
    same = same;
    size = refl;
    rest = signs;
    tree = bare x;
    is = bare_call x us (token_of (Sign LeftParenthesis)) refl is;
    keeps = name_over x us is;
  }

  deep_by : (x : Placed Bytes) (ts us : List Token) (t : Token) (rest : List Token) → ts ≡ us ++ t ∷ rest →
      Is name_kind x us → (v : Bool) → same_what t.what (Sign LeftParenthesis) ≡ v →
      Tells (passing b 0) call_kind ts (too_deep b v (t ∷ rest))
  deep_by x ts us t rest same is true e = record {
    front = us;
    last = t;
    back = rest;
    same = same;
    what = of_nesting;
    told = refl;
    rest = token_of (Sign RightParenthesis) ∷ [];
    tree = bare x;
    is = bare_call x us t (same_is t.what (Sign LeftParenthesis) e) is;
    passes = name_passes x us is;
  }
  deep_by x ts us t rest same is false e = no_begun x ts us (t ∷ rest) same is

  no_call_tells : (x : Placed Bytes) (ts us rest : List Token) → ts ≡ us ++ rest → Is name_kind x us →
      Tells (passing b 0) call_kind ts (no_call b (x, rest))
  no_call_tells x ts us [] same is = no_begun x ts us [] same is
  no_call_tells x ts us (t ∷ rest) same is = deep_by x ts us t rest same is (same_what t.what (Sign LeftParenthesis)) refl

  deep_past : (rest : List Token) (v : Bool) → Past (length rest) (too_deep b v rest)
  deep_past rest true = tt
  deep_past rest false = omega arith

  deep_alike : (p c d : List Token) (v : Bool) → Alike c d (too_deep b v (p ++ c)) (too_deep b v (p ++ d))
  deep_alike p c d true = tt
  deep_alike p c d false = no_alike p c d

  no_call_alike : (x : Placed Bytes) (p c d : List Token) → Alike c d (no_call b (x, p ++ c)) (no_call b (x, p ++ d))
  no_call_alike x [] c d = past_alike c d (no_call b (x, d)) (no_call b (x, c))
      (deep_past c (begins_with (Sign LeftParenthesis) c))
  no_call_alike x (t ∷ p) c d = deep_alike (t ∷ p) c d (same_what t.what (Sign LeftParenthesis))

  -- no call is read
  no_call_agrees : (p c : List Token) (x : Placed Bytes × List Token) (v : Bool) (s : Read PlainExpression) →
      Agrees call_kind p c (too_deep b v x.1) s
  no_call_agrees p c x true s = tt
  no_call_agrees p c x false s = tt

  none_agrees : (p c : List Token) (x : Read (Placed Bytes)) (s : Read PlainExpression) →
      Agrees call_kind p c (x >>= no_call b) s
  none_agrees p c (Ok x) s = no_call_agrees p c x (begins_with (Sign LeftParenthesis) x.1) s
  none_agrees p c (Err f) s = tt

  no_call_honest : Honest (passing b 0) call_kind (λ ts. name_at ts >>= no_call b)
  no_call_honest = record {
    example = call_example;
    tells = λ ts. bind_tells (passing b 0) name_kind call_kind ts (no_call b)
        (λ x us rest same is keep. no_call_tells x ts us rest same is)
        bare_front (name_at ts) ((name_honest (passing b 0)).tells ts);
    alike = λ p c d. bind_alike c d (name_at (p ++ d)) (no_call b) (no_call b)
        (λ x. deep_past x.1 (begins_with (Sign LeftParenthesis) x.1)) (name_at (p ++ c))
        (λ x us e. no_call_alike x us c d) ((name_honest (passing b 0)).alike p c d);
    agree = λ p c d. none_agrees p c (name_at (p ++ c)) (name_at (p ++ d) >>= no_call b);
  }

  pub call_honest : (n : ℕ) → Honest (passing b n) call_kind (call_at b n)
  unfolding call_at
  call_honest zero = no_call_honest
  call_honest (suc n) = let l = levels n in
      call_with_honest b n (expression_at b n) (atom_at b n) l.expressions l.atoms l.takes l.left

  pub call_opens : (n : ℕ) → Opens is_name (call_at b n)
  unfolding call_at
  call_opens zero = bind_opens is_name name_at (λ ts. no_call b)
      (λ ts x. deep_past x.1 (begins_with (Sign LeftParenthesis) x.1)) name_opens
  call_opens (suc n) = let l = levels n in
      call_with_opens b n (expression_at b n) (atom_at b n) l.expressions l.atoms l.takes l.left
