-- Words that tokens begin with: one behind another, with a place, and whole lists.
use Rattle.std.proofs.Common.{◌≡◌, ◌+◌, ◌<◌, List, [], ◌∷◌, ◌++◌, length, Option, Some, None, Ok, refl, sym}
use Rattle.std.proofs.Common.{ap, ◌∙◌, subst, arith}
use Rattle.au_base.specs.declared.places.Pos.{Pos}
use Rattle.au_base.specs.declared.tokens.Token.{Token}
use Rattle.au_base.specs.declared.tokens.What.{What}
use Rattle.au_syntax.specs.Words.{Words, AreWords, begun}
use Rattle.au_read_expressions.specs.Reading.{◌>>=◌, front, place_of, token_at, tokens_at}
use Rattle.au_read_expressions.specs.Spelling.{Begins, fixed}
use Rattle.au_read_expressions.proofs.Steps.{bind_ok, ok_same, token_is, token_again}

-- words one behind the other
pub begins_split : (a b : Words) (ts rest : List Token) → Begins (a ++ b) ts rest → (mid : List Token)
    × Begins a ts mid × Begins b mid rest
begins_split [] b ts rest h = (ts, refl, h)
begins_split (w ∷ a) b [] rest h = absurd h
begins_split (w ∷ a) b (t ∷ ts) rest h = let s = begins_split a b ts rest h.1 in (s.0, (h.0, s.1), s.2)

pub begins_join : (a b : Words) (ts mid rest : List Token) → Begins a ts mid → Begins b mid rest →
    Begins (a ++ b) ts rest
begins_join [] b ts mid rest h k = subst (λ x. Begins b x rest) (sym h) k
begins_join (w ∷ a) b [] mid rest h k = absurd h
begins_join (w ∷ a) b (t ∷ ts) mid rest h k = (h.0, begins_join a b ts mid rest h.1 k)

-- words with the place of the first
pub begun_split : (at : Pos) (ws : Words) (ts rest : List Token) → 0 < length ws →
    Begins (begun at ws) ts rest → (place_of ts ≡ at) × Begins ws ts rest
begun_split at [] ts rest some h = absurd (let wrong : ⊥ = omega (arith, some) in wrong)
begun_split at (w ∷ ws) [] rest some h = absurd h
begun_split at (w ∷ ws) (t ∷ ts) rest some h = (h.0.1.0, ((h.0.0, h.0.1.1), h.1))

pub begun_join : (ws : Words) (ts rest : List Token) → Begins ws ts rest → Begins (begun (place_of ts) ws) ts rest
begun_join [] ts rest h = h
begun_join (w ∷ ws) [] rest h = absurd h
begun_join (w ∷ ws) (t ∷ ts) rest h = ((h.0.0, (refl, h.0.1)), h.1)

-- words with tokens behind are fewer than all tokens
pub begins_shorter : (ws : Words) (ts rest : List Token) → Begins ws ts rest → length ws + length rest ≡ length ts
begins_shorter [] ts rest h = rw h (omega arith)
begins_shorter (w ∷ ws) [] rest h = absurd h
begins_shorter (w ∷ ws) (t ∷ ts) rest h = let e = begins_shorter ws ts rest h.1
    in let r : length (w ∷ ws) + length rest ≡ length (t ∷ ts) = omega (arith, e) in r

-- the tokens of words, with none behind
pub begins_all : (ws : Words) (ts : List Token) → AreWords ws ts → Begins ws ts []
begins_all [] [] h = refl
begins_all [] (t ∷ ts) h = absurd h
begins_all (w ∷ ws) [] h = absurd h
begins_all (w ∷ ws) (t ∷ ts) h = (h.0, begins_all ws ts h.1)

pub all_begins : (ws : Words) (ts : List Token) → Begins ws ts [] → AreWords ws ts
all_begins [] [] h = tt
all_begins [] (t ∷ ts) h = absurd cc
all_begins (w ∷ ws) [] h = absurd h
all_begins (w ∷ ws) (t ∷ ts) h = (h.0, all_begins ws ts h.1)

-- what the first of words is
abbrev pub first_word : Words → Option What
first_word [] = None
first_word (w ∷ ws) = Some w.what

pub front_of : (ws : Words) (ts rest : List Token) → 0 < length ws → Begins ws ts rest → front ts ≡ first_word ws
front_of [] ts rest some h = absurd (let wrong : ⊥ = omega (arith, some) in wrong)
front_of (w ∷ ws) [] rest some h = absurd h
front_of (w ∷ ws) (t ∷ ts) rest some h = ap (λ x. Some x) h.0.0

-- fixed words are read
pub tokens_take : (whats : List What) (ts rest : List Token) → tokens_at whats ts ≡ Ok rest →
    Begins (fixed whats) ts rest
tokens_take [] ts rest e = ok_same ts rest e
tokens_take (what ∷ whats) ts rest e =
    let b = bind_ok (token_at what ts) (tokens_at whats) rest e in
    let t = token_is what ts b.0 b.1 in
    subst (λ x. Begins (fixed (what ∷ whats)) x rest) (sym t.2) ((t.1, tt), tokens_take whats b.0 rest b.2)

pub tokens_again : (whats : List What) (ts rest : List Token) → Begins (fixed whats) ts rest →
    tokens_at whats ts ≡ Ok rest
tokens_again [] ts rest h = ap (λ x. Ok x) h
tokens_again (what ∷ whats) [] rest h = absurd h
tokens_again (what ∷ whats) (t ∷ ts) rest h = ap (λ r. r >>= tokens_at whats) (token_again what t ts h.0.0)
    ∙ tokens_again whats ts rest h.1
