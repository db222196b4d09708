-- The piece that stands at the front of bytes is the one that is read there.
use Rattle.std.proofs.Common.{◌≡◌, ℕ, ◌<◌, List, ◌∷◌, length, ap, ◌∙◌, sym, subst, inl, inr, arith}
use Rattle.std.proofs.Common.{length-append}
use Rattle.au_lexer.specs.Pieces.{Piece, spelling, what_of}
use Rattle.au_lexer.specs.Cut.{Begins, Stands}
use Rattle.au_lexer.specs.Reading.{piece, front}
use Rattle.au_lexer.proofs.CutLemmas.{spelling_some}
use Rattle.au_lexer.proofs.FrontLemmas.{begins_found, found_begins, split_first}

-- the bytes where a piece begins aren't empty
pub begins_some : (found : Piece) (bytes : List ℕ) → Begins found bytes → 0 < length bytes
begins_some found bytes begins =
    let total = ap length begins.front.1 in
    let parts = length-append (spelling found) begins.front.0 in
    omega (arith, spelling_some found begins.known)

from_first : (first : ℕ) (rest : List ℕ) (found : Piece) → Stands found (first ∷ rest) → front (first ∷ rest)
    ≡ piece (length (spelling found)) (what_of found)
from_first first rest found stands =
    let some = begins_found (first ∷ rest) found stands.begins in
    elim some.3 [
      | inl same ↦ some.2 ∙ ap (λ n. piece n some.1) (sym same.0)
          ∙ ap (λ w. piece (length (spelling found)) w) (sym same.1)
      | inr longer ↦
          let other = found_begins first rest some.0 some.1 some.2 in
          let bound = stands.longest other.found other.begins in
          let sized = other.sized in
          absurd (omega arith)
    ]

-- what is read where a piece stands
pub stands_front : (bytes : List ℕ) (found : Piece) → Stands found bytes →
    front bytes ≡ piece (length (spelling found)) (what_of found)
stands_front bytes found stands =
    let split = split_first bytes (begins_some found bytes stands.begins) in
    let P : List ℕ → Type 0 = λ b. front b ≡ piece (length (spelling found)) (what_of found) in
    subst P (sym split.2) (from_first split.0 split.1 found (subst (Stands found) split.2 stands))
