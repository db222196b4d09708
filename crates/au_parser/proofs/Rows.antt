-- Rows of the grammar that are chosen by more than one token: what they read, and what they take first.
use Rattle.std.proofs.Common.{Bool, true, false, List, [], ◌∷◌, ◌++◌, drop, Option, Some, None, Ok, arith}
use Rattle.std.proofs.Common.{cond}
use Rattle.au_base.specs.declared.places.Pos.{Pos}
use Rattle.au_base.specs.declared.tokens.Token.{Token}
use Rattle.au_base.specs.declared.tokens.What.{What}
use Rattle.au_read_expressions.specs.Reading.{Read, ◌>>=◌, no, front, same_what, tokens_at, behind_tokens}
use Rattle.au_read_expressions.specs.Reading.{pair, built_at, built}
use Rattle.au_parser.proofs.Told.{Passing, Kind, Alike, Agrees, Honest, past_alike, agrees_empty}
use Rattle.au_parser.proofs.Ways.{honest_past, no_alike, behind_kind, pair_kind, behind_honest}
use Rattle.au_parser.proofs.Ways.{pair_honest, Builds, built_honest}
use Rattle.au_parser.proofs.FirstTokens.{Opens, behind_opens, bind_opens, Heads, heads_agree}
use Rattle.au_parser.proofs.FirstTokens.{built_opens, open_alike}
use Rattle.au_parser.specs.Measures.{Measured}

-- a part, and another behind tokens
pub pair_behind : {A B : Type 0} (P : Passing) (kind : Kind A) (other : Kind B) (read : List Token → Read A) →
    Honest P kind read → (after : List Token → Read B) → Honest P other after → (whats : List What)
    → Honest P (pair_kind kind (behind_kind other whats)) (pair read (behind_tokens whats after))
pair_behind P kind other read first after second whats =
    pair_honest P kind (behind_kind other whats) read first (behind_tokens whats after)
    (behind_honest P other whats after second)

-- a row: what is told of it, and the first tokens that it takes
pub record Row {A : Type 0} (P : Passing) (kind : Kind A) (opens : What → Bool) (read : List Token → Read A) : Type 0
  where
    pub honest : Honest P kind read
    pub opened : Opens opens read

-- a row that begins with a token
pub behind_row : {A B : Type 0} (P : Passing) (kind : Kind A) (other : Kind B) (w : What) (ws : List What)
    (read : List Token → Read A) (honest : Honest P kind read) (build : Pos → A → B)
    → Builds (behind_kind kind (w ∷ ws)) other build
    → Row P other (λ what. same_what what w) (built build (behind_tokens (w ∷ ws) read))
behind_row P kind other w ws read honest build builds = record {
  honest = built_honest P (behind_kind kind (w ∷ ws)) other (behind_tokens (w ∷ ws) read)
      (behind_honest P kind (w ∷ ws) read honest) build builds;
  opened = built_opens (λ what. same_what what w) (behind_tokens (w ∷ ws) read)
      (behind_opens w ws read (honest_past P kind read honest)) build;
}

-- two rows that begin with the same token, and whose parts take the same first tokens
module _ {A B C : Type 0} (w : What) (opens : What → Bool) (read : List Token → Read A) (first : Opens opens read)
    (other : List Token → Read B) (second : Opens opens other) (build : Pos → A → C) (make : Pos → B → C) where
  two_by : (t u : Token) (b c : List Token) (v : Bool)
      → Alike b c (((cond v (Ok (u ∷ b)) (no (t ∷ u ∷ b)) >>= tokens_at []) >>= read) >>= built_at (build t.at))
      (((cond v (Ok (u ∷ c)) (no (t ∷ u ∷ c)) >>= tokens_at []) >>= other) >>= built_at (make t.at))
  two_by t u b c true =
      open_alike opens (λ ts. read ts >>= built_at (build t.at)) (λ ts. other ts >>= built_at (make t.at))
      (bind_opens opens read (λ ts. built_at (build t.at)) (λ ts x. omega arith) first)
      (bind_opens opens other (λ ts. built_at (make t.at)) (λ ts x. omega arith) second) u b c
  two_by t u b c false = no_alike (t ∷ u ∷ []) b c

  pub two_alike : (t u : Token) (b c : List Token)
      → Alike b c (built build (behind_tokens (w ∷ []) read) (t ∷ u ∷ b))
      (built make (behind_tokens (w ∷ []) other) (t ∷ u ∷ c))
  two_alike t u b c = two_by t u b c (same_what t.what w)

-- by the second and third token
module _ {A : Type 0} (P : Passing) (kind : Kind A) (by : Option What → Option What → List Token → Read A)
    (each : (v w : Option What) → Honest P kind (by v w)) (opens : What → Bool)
    (all : (v w : Option What) → Opens opens (by v w))
    (two : (w : What) (x y : Option What) (t u : Token) (b c : List Token) →
    Alike b c (by (Some w) x (t ∷ u ∷ b)) (by (Some w) y (t ∷ u ∷ c)))
    (m : Measured) (heads : Heads kind m)
    (both : (w : What) (x y : Option What) (t u : Token) (b c : List Token) →
    Agrees kind (t ∷ u ∷ []) b (by (Some w) x (t ∷ u ∷ b)) (by (Some w) y (t ∷ u ∷ c))) where
  abbrev by_third : List Token → Read A
  by_third ts = by (front (drop 1 ts)) (front (drop 2 ts)) ts

  third_alike : (p b c : List Token) → Alike b c (by_third (p ++ b)) (by_third (p ++ c))
  third_alike [] b c = past_alike b c (by_third c) (by_third b)
      (honest_past P kind (by (front (drop 1 b)) (front (drop 2 b))) (each (front (drop 1 b)) (front (drop 2 b))) b)
  third_alike (t ∷ []) b c = open_alike opens (by (front b) (front (drop 1 b))) (by (front c) (front (drop 1 c)))
      (all (front b) (front (drop 1 b))) (all (front c) (front (drop 1 c))) t b c
  third_alike (t ∷ u ∷ []) b c = two u.what (front b) (front c) t u b c
  third_alike (t ∷ u ∷ v ∷ p) b c = (each (Some u.what) (Some v.what)).alike (t ∷ u ∷ v ∷ p) b c

  third_agree : (p b c : List Token) → Agrees kind p b (by_third (p ++ b)) (by_third (p ++ c))
  third_agree [] b c = agrees_empty kind b (by_third b) (by_third c)
  third_agree (t ∷ []) b c = heads_agree P kind m heads t b (t ∷ b) (t ∷ c) (by_third (t ∷ b)) (by_third (t ∷ c))
      ((each (front b) (front (drop 1 b))).tells (t ∷ b)) ((each (front c) (front (drop 1 c))).tells (t ∷ c))
  third_agree (t ∷ u ∷ []) b c = both u.what (front b) (front c) t u b c
  third_agree (t ∷ u ∷ v ∷ p) b c = (each (Some u.what) (Some v.what)).agree (t ∷ u ∷ v ∷ p) b c

  pub third_honest : Honest P kind (λ ts. by (front (drop 1 ts)) (front (drop 2 ts)) ts)
  third_honest = record {
    example = (each None None).example;
    tells = λ ts. (each (front (drop 1 ts)) (front (drop 2 ts))).tells ts;
    alike = third_alike;
    agree = third_agree;
  }
