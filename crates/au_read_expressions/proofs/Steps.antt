-- Steps of reading, and the test of two tokens.
use Rattle.std.proofs.Common.{◌≡◌, ℕ, suc, ◌<◌, true, ◌==◌, List, [], ◌∷◌, length}
use Rattle.std.proofs.Common.{map, get_or, drop, Some, Result, Ok, Err, refl, sym, ap, subst, ◌∙◌, inl, inr}
use Rattle.std.specs.Ordering.{int_eq}
use Rattle.std.proofs.Math.Seq.{drop-cons}
use Rattle.std.proofs.lemmas.Bool.{and_parts, and_from, eqb-true, eq-eqb, cond-true}
use Rattle.std.proofs.lemmas.Bool.Decides.{Decides-int_eq}
use Rattle.std.proofs.lemmas.Slice.Eq.{bytes_eq-Decides}
use denote.Enum.Bare.{same_true, true_same}
use Rattle.au_base.specs.contracts.tokens.Keyword.{the_type as keyword}
use Rattle.au_base.specs.contracts.tokens.Sign.{the_type as sign}
use Rattle.au_base.specs.declared.tokens.Token.{Token}
use Rattle.au_base.specs.declared.tokens.What.{What}
use Rattle.au_base.specs.declared.tokens.What.TheVariants.{Word, Sign, Name, Number, Text}
use Rattle.au_base.proofs.BoolLemmas.{cond_cases}
use Rattle.au_read_expressions.specs.declared.faults.Fault.{Fault}
use Rattle.au_read_expressions.specs.declared.faults.Stop.{Stop}
use Rattle.au_read_expressions.specs.declared.tokens.Expected.{Expected}
use Rattle.au_read_expressions.specs.declared.faults.Stop.TheVariants as stop
use Rattle.au_read_expressions.specs.Reading.{◌>>=◌, Stops, Gives, expected_what, same_what, front, is_front}
use Rattle.au_read_expressions.specs.Reading.{begins_with, token_at, tokens_at}

-- what steps give, with the type of a fault
abbrev pub given : {A : Type 0} → A → Result A Fault
given x = Ok x

pub ok_same : {A : Type 0} (x y : A) → given x ≡ given y → x ≡ y
ok_same x y e = cc

-- what isn't read isn't read
pub not_read : {A : Type 0} (f : Fault) (x : A) → ◌≡◌ {A = Result A Fault} (Err f) (Ok x) → ⊥
not_read f x e = cc

-- where both steps read, the first reads something that the second goes on from
pub bind_ok : {A B : Type 0} (r : Result A Fault) (f : A → Result B Fault) (y : B) → (r >>= f) ≡ Ok y →
    (x : A) × (r ≡ Ok x) × (f x ≡ Ok y)
bind_ok (Ok x) f y e = (x, refl, e)
bind_ok (Err d) f y e = absurd (not_read d y e)

-- tokens for which the test holds say the same
pub same_is : (a b : What) → same_what a b ≡ true → a ≡ b
same_is (Word a) (Word b) e = ap Word (same_true keyword tt a b e)
same_is (Sign a) (Sign b) e = ap Sign (same_true sign tt a b e)
same_is (Name a) (Name b) e = ap Name ((bytes_eq-Decides a b).0 e)
same_is (Number a n) (Number b m) e =
    let both = and_parts (int_eq a b) (n == m) e in
    ap (λ v. Number v n) ((Decides-int_eq a b).0 both.0) ∙ ap (Number b) (eqb-true n m both.1)
same_is (Text a) (Text b) e = ap Text ((bytes_eq-Decides a b).0 e)
same_is a b e = absurd cc

-- the test holds for a token and itself
pub same_self : (a : What) → same_what a a ≡ true
same_self (Word a) = true_same keyword a a refl
same_self (Sign a) = true_same sign a a refl
same_self (Name a) = (bytes_eq-Decides a a).1 refl
same_self (Number a n) = and_from _ _ ((Decides-int_eq a a).1 refl) (eq-eqb n n refl)
same_self (Text a) = (bytes_eq-Decides a a).1 refl

-- a token that is read stands first
pub token_is : (what : What) (ts rest : List Token) → token_at what ts ≡ Ok rest → (token : Token)
    × (token.what ≡ what) × (ts ≡ token ∷ rest)
token_is what [] rest e = absurd cc
token_is what (token ∷ ts) rest e =
    elim (cond_cases (same_what token.what what) (given ts) (Err _) (Ok rest) e) [
      | inl w ↦ (token, same_is token.what what w.0, ap (λ r. token ∷ r) (ok_same ts rest w.1))
      | inr w ↦ absurd (let wrong = w.1 in cc)
    ]

-- a token that stands first is read
pub token_again : (what : What) (token : Token) (rest : List Token) → token.what ≡ what →
    token_at what (token ∷ rest) ≡ Ok rest
token_again what token rest is =
    cond-true (same_what token.what what) (given rest) (Err _)
    (ap (same_what token.what) (sym is) ∙ same_self token.what)

-- a token that the test tells stands first
pub begins_is : (what : What) (ts : List Token) → begins_with what ts ≡ true → (token : Token)
    × (token.what ≡ what) × (ts ≡ token ∷ drop 1 ts)
begins_is what [] e = absurd cc
begins_is what (token ∷ ts) e = (token, same_is token.what what e, refl)

pub begins_again : (what : What) (ts : List Token) → front ts ≡ Some what → begins_with what ts ≡ true
begins_again what ts e = ap (is_front what) e ∙ same_self what

-- ---- a fault that is passed on

stops_on : {A B : Type 0} (e : Stop) (one : Result B Fault) (read : Result A Fault) → Stops e one →
    ((f : Fault) → one ≡ Err f → read ≡ Err f) → Stops e read
stops_on stop.Memory one read stops on = tt
stops_on (stop.Fault f) one read stops on = on f stops

-- what stops a part stops what it is a part of
pub passes_on : {X A B : Type 0} (view : X → A) (result : Result X Stop) (e : Stop) (one : Result B Fault)
    (read : Result A Fault)
    → (y : Stop) × (result ≡ Err y) × (y ≡ e) → Stops e one → ((f : Fault) → one ≡ Err f → read ≡ Err f) →
    Gives view result read
passes_on view result e one read is stops on =
    subst (λ r. Gives view r read) (sym is.1) (subst (λ y. Stops y read) (sym is.2) (stops_on e one read stops on))

-- what stops at one of the expected tokens stops there
pub tokens_fail : (known : List Expected) (i : ℕ) (d : Expected) (rest : List Token) (f : Fault) →
    i < length known → token_at (expected_what (get_or known i d)) rest ≡ Err f
    → tokens_at (map expected_what (drop i known)) rest ≡ Err f
tokens_fail known i d rest f h stops = ap (λ ws. tokens_at (map expected_what ws) rest)
    (drop-cons known i d h) ∙ ap (λ r. r >>= tokens_at (map expected_what (drop (suc i) known))) stops
