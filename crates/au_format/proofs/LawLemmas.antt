-- A layout keeps tokens and remarks, and stays as it is.
use Rattle.std.proofs.Common.{◌≡◌, ℕ, List, [], ◌∷◌, ◌++◌, length, take, drop, ap, ◌∙◌, sym}
use Rattle.std.proofs.Common.{refl, subst, arith}
use Rattle.std.proofs.lemmas.List.{append_cancel_right}
use Rattle.au_base.specs.declared.tokens.Token.{Token as TokenOf}
use Rattle.au_lexer.specs.Cut.{CutsFront, Stands, tokens_among}
use Rattle.au_lexer.specs.Pieces.{Piece, blank, comment, docstring, number, token, spelling, what_of, number_of, IsPiece}
use Rattle.au_lexer.specs.Pieces.{three_quotes}
use Rattle.au_lexer.specs.Reading.{piece}
use Rattle.au_syntax.specs.Words.{AreWords, Words, spelled, words}
use Rattle.au_format.specs.declared.standings.Previous.TheVariants.{Nothing}
use Rattle.au_format.specs.Layout.{layout_text}
use Rattle.au_format.specs.Keeping.{kept_among, LayoutKeeps, LayoutCuts, LayoutSays, LayoutStays, OneLayout}
use Rattle.au_format.specs.Places.{whats, whats_among}
use Rattle.au_format.proofs.StandLemmas.{begins_some, stands_front}
use Rattle.au_format.proofs.PieceLemmas.{stands_spelled}
use Rattle.au_format.proofs.LayingLemmas.{whats_cut}
use Rattle.au_format.proofs.WrittenLemmas.{written, written_spelled, written_whats, written_kept, laid_again}
use Rattle.au_format.proofs.ApartLemmas.{cuts_known, cuts_again, written_apart}

-- two pieces that are spelled alike and mean the same are one
one_found : (a b : Piece) → IsPiece a → IsPiece b → spelling a ≡ spelling b → what_of a ≡ what_of b → a ≡ b
one_found (blank x) (blank y) known other h e = let same : x ≡ y = cc in ap blank same
one_found (blank x) (comment y) known other h e = absurd cc
one_found (blank x) (docstring y) known other h e = absurd cc
one_found (blank x) (number y) known other h e = absurd cc
one_found (blank x) (token y) known other h e = absurd cc
one_found (comment x) (blank y) known other h e = absurd cc
one_found (comment x) (comment y) known other h e = let same : x ≡ y = cc in ap comment same
one_found (comment x) (docstring y) known other h e = let first : ◌≡◌ {A = ℕ} 45 34 = cc in absurd (omega (arith, first))
one_found (comment x) (number y) known other h e = absurd cc
one_found (comment x) (token y) known other h e = absurd cc
one_found (docstring x) (blank y) known other h e = absurd cc
one_found (docstring x) (comment y) known other h e = let first : ◌≡◌ {A = ℕ} 34 45 = cc in absurd (omega (arith, first))
one_found (docstring x) (docstring y) known other h e =
    let same : x ++ three_quotes ≡ y ++ three_quotes = cc in
    ap docstring (append_cancel_right x y three_quotes same)
one_found (docstring x) (number y) known other h e = absurd cc
one_found (docstring x) (token y) known other h e = absurd cc
one_found (number x) (blank y) known other h e = absurd cc
one_found (number x) (comment y) known other h e = absurd cc
one_found (number x) (docstring y) known other h e = absurd cc
one_found (number x) (number y) known other h e = ap number h
one_found (number x) (token y) known other h e =
    let same : y ≡ number_of x = cc in absurd (subst (λ w. IsPiece (token w)) same other)
one_found (token x) (blank y) known other h e = absurd cc
one_found (token x) (comment y) known other h e = absurd cc
one_found (token x) (docstring y) known other h e = absurd cc
one_found (token x) (number y) known other h e =
    let same : x ≡ number_of y = cc in absurd (subst (λ w. IsPiece (token w)) same known)
one_found (token x) (token y) known other h e = let same : x ≡ y = cc in ap token same

-- one piece stands at the front of bytes
one_stands : (bytes : List ℕ) (a b : Piece) → Stands a bytes → Stands b bytes → a ≡ b
one_stands bytes a b x y =
    let e : piece (length (spelling a)) (what_of a) ≡ piece (length (spelling b)) (what_of b) =
    sym (stands_front bytes a x) ∙ stands_front bytes b y in
    let size : length (spelling a) ≡ length (spelling b) = cc in
    let meant : what_of a ≡ what_of b = cc in
    one_found a b x.begins.known y.begins.known
    (sym (stands_spelled bytes a x) ∙ ap (λ n. take n bytes) size ∙ stands_spelled bytes b y) meant

-- a file is cut into its pieces in one way
one_cut : (ones others : List Piece) (bytes : List ℕ) → CutsFront ones bytes [] → CutsFront others bytes [] →
    ones ≡ others
one_cut [] [] bytes a b = refl
one_cut [] (found ∷ others) bytes a b =
    let some = begins_some found bytes b.0.begins in absurd (omega (arith, ap length a))
one_cut (found ∷ ones) [] bytes a b =
    let some = begins_some found bytes a.0.begins in absurd (omega (arith, ap length b))
one_cut (one ∷ ones) (other ∷ others) bytes a b =
    let same : one ≡ other = one_stands bytes one other a.0 b.0 in
    let rest : ones ≡ others = one_cut ones others (drop (length (spelling one)) bytes) a.1
    (subst (λ p. CutsFront others (drop (length (spelling p)) bytes) []) (sym same) b.1) in
    ap (λ p. p ∷ ones) same ∙ ap (λ ps. other ∷ ps) rest

-- the pieces of a layout cut it
layout_cut : (pieces : List Piece) (bytes text : List ℕ) → CutsFront pieces bytes [] → text ≡ layout_text pieces →
    CutsFront (written [] Nothing 0 pieces) text []
layout_cut pieces bytes text cuts is =
    subst (λ b. CutsFront (written [] Nothing 0 pieces) b []) (written_spelled [] Nothing 0 pieces ∙ sym is)
    (cuts_again (written [] Nothing 0 pieces) (written_apart [] Nothing 0 pieces (cuts_known pieces bytes [] cuts)))

pub layout_keeps : LayoutKeeps
layout_keeps bytes text layout all held =
    let pieces : List Piece = layout.0 in
    let same : held.0 ≡ pieces = one_cut held.0 pieces bytes held.1 layout.1 in (
      written [] Nothing 0 pieces,
      layout_cut pieces bytes text layout.1 layout.2,
      held.2 ∙ ap kept_among same ∙ sym (written_kept [] Nothing 0 pieces),
    )

pub layout_cuts : LayoutCuts
layout_cuts file bytes text tokens cut layout =
    let pieces : List Piece = layout.0 in
    let all : List Piece = written [] Nothing 0 pieces in
    let same : pieces ≡ cut.0 = one_cut pieces cut.0 bytes layout.1 cut.1 in (
      tokens_among file [] all,
      (all, layout_cut pieces bytes text layout.1 layout.2, refl),
      whats_cut file [] all ∙ written_whats [] Nothing 0 pieces ∙ ap whats_among same
          ∙ sym (ap whats cut.2 ∙ whats_cut file [] cut.0),
    )

pub layout_stays : LayoutStays
layout_stays bytes text layout = (
  written [] Nothing 0 layout.0,
  layout_cut layout.0 bytes text layout.1 layout.2,
  layout.2 ∙ sym (laid_again [] Nothing 0 layout.0),
)

pub one_layout : OneLayout
one_layout bytes text other a b =
    a.2 ∙ ap layout_text (one_cut a.0 b.0 bytes a.1 b.1) ∙ sym b.2

-- the words of a tree are its tokens
words_spelled : (ws : Words) (tokens : List TokenOf) → AreWords ws tokens → whats tokens ≡ spelled ws
words_spelled [] [] h = refl
words_spelled [] (one ∷ tokens) h = absurd h
words_spelled (printed ∷ ws) [] h = absurd h
words_spelled (printed ∷ ws) (one ∷ tokens) h =
    ap (λ w. w ∷ whats tokens) h.0.0 ∙ ap (λ l. printed.what ∷ l) (words_spelled ws tokens h.1)

pub layout_says : LayoutSays
layout_says file bytes text tokens m cut spells layout =
    let others = layout_cuts file bytes text tokens cut layout in
    (others.0, others.1, others.2 ∙ words_spelled (words m) tokens spells)
