-- The words that measure are the words of the tree: lists of words, and types.
use Rattle.std.proofs.Common.{◌≡◌, ℕ, ◌+◌, List, [], ◌∷◌, ◌++◌, map, refl, sym, ap, ap₂, ◌∙◌, append_assoc}
use Rattle.std.proofs.Common.{suc, Bool, true, false}
use Rattle.std.specs.List.{flat_map}
use Rattle.au_base.specs.declared.places.Pos.{Pos}
use Rattle.au_base.specs.declared.tokens.Sign.{Sign as SignOf}
use Rattle.au_base.specs.declared.tokens.Token.{Token}
use Rattle.au_syntax.specs.Types.{WrittenType, WrittenTypes, named, reference, no_types, types}
use Rattle.au_syntax.specs.Words as w
use Rattle.au_syntax.specs.Words.{Words, AreWords, mark, name_words, access_sign, type_words, words_of_types}
use Rattle.au_syntax.specs.Words.{listed_in, separated}
use Rattle.au_base.specs.declared.tokens.Sign.TheVariants.{LeftBracket, RightBracket, Comma}
use Rattle.au_parser.specs.Measures as m
use Rattle.au_parser.specs.Measures.{Measures, plains, words_of, begun, joined_by, enclosed, known_behind}
use Rattle.au_parser.specs.Measures.{known_late, inside, rooted, known_second, node, at_level, under}
use Rattle.au_parser.specs.Measures.{begins_type, region_words, type_measures, measures_of_types, counted}
use Rattle.au_parser.specs.Measures.{written}
use Rattle.au_parser.proofs.Told.{AreMeasured}
use Rattle.au_read_expressions.specs.TypeStops.{is_name}

-- ---- tokens

pub are_words : (ws : Measures) (ts : List Token) → AreMeasured ws ts → AreWords (words_of ws) ts
are_words [] [] h = tt
are_words [] (t ∷ ts) h = absurd h
are_words (w ∷ ws) [] h = absurd h
are_words (w ∷ ws) (t ∷ ts) h = (h.0, are_words ws ts h.1)

pub are_measured : (ws : Measures) (ts : List Token) → AreWords (words_of ws) ts → AreMeasured ws ts
are_measured [] [] h = tt
are_measured [] (t ∷ ts) h = absurd h
are_measured (w ∷ ws) [] h = absurd h
are_measured (w ∷ ws) (t ∷ ts) h = (h.0, are_measured ws ts h.1)

-- ---- lists of words

pub join : (a b : Measures) → words_of (a ++ b) ≡ words_of a ++ words_of b
join [] b = refl
join (w ∷ a) b = ap (λ ws. w.word ∷ ws) (join a b)

pub of_plains : (ws : Words) → words_of (plains ws) ≡ ws
of_plains [] = refl
of_plains (w ∷ ws) = ap (λ rest. w ∷ rest) (of_plains ws)

pub of_level : (n : ℕ) (ws : Words) → words_of (at_level n ws) ≡ ws
of_level n [] = refl
of_level n (w ∷ ws) = ap (λ rest. w ∷ rest) (of_level n ws)

pub of_inside : (a : Measures) → words_of (inside a) ≡ words_of a
of_inside [] = refl
of_inside (w ∷ a) = ap (λ ws. w.word ∷ ws) (of_inside a)

pub of_under : (a : Measures) → words_of (under a) ≡ words_of a
of_under [] = refl
of_under (w ∷ a) = ap (λ ws. w.word ∷ ws) (of_under a)

pub of_first : (a : Measures) → words_of (begins_type a) ≡ words_of a
of_first [] = refl
of_first (w ∷ a) = refl

pub of_rooted : (a : Measures) → words_of (rooted a) ≡ words_of a
of_rooted [] = refl
of_rooted (w ∷ a) = refl

pub of_second : (a : Measures) → words_of (known_second a) ≡ words_of a
of_second [] = refl
of_second (w ∷ a) = ap (λ ws. w.word ∷ ws) (of_rooted a)

pub of_late : (a : Measures) → words_of (known_late a) ≡ words_of a
of_late [] = refl
of_late (w ∷ a) = by (is_name w.word.what)
  where
    by : (v : Bool) → words_of (known_behind v w a) ≡ w.word ∷ words_of a
    by true = ap (λ ws. w.word ∷ ws) (of_rooted a)
    by false = refl

pub of_begun : (at : Pos) (a : Measures) → words_of (begun at a) ≡ w.begun at (words_of a)
of_begun at [] = refl
of_begun at (w ∷ a) = refl

pub of_node : (at : Pos) (a : Measures) → words_of (node at a) ≡ w.begun at (words_of a)
of_node at a = of_begun at (rooted a) ∙ ap (w.begun at) (of_rooted a)

pub of_counted : (seen before : ℕ) (a : Measures) → words_of (counted seen before a) ≡ words_of a
of_counted seen before [] = refl
of_counted seen before (w ∷ a) = ap (λ ws. w.word ∷ ws) (of_counted (seen + w.nodes) (suc before) a)

of_rest : (between : Measures) (list : List Measures) → words_of (flat_map (λ one. between ++ one) list)
    ≡ flat_map (λ one. words_of between ++ one) (map words_of list)
of_rest between [] = refl
of_rest between (one ∷ rest) =
    join (between ++ one) (flat_map (λ one. between ++ one) rest)
    ∙ ap₂ (λ a b. a ++ b) (join between one) (of_rest between rest)

pub of_joined : (between : Measures) (list : List Measures) → words_of (joined_by between list)
    ≡ separated (words_of between) (map words_of list)
of_joined between [] = refl
of_joined between (one ∷ rest) =
    join one (flat_map (λ one. between ++ one) rest) ∙ ap (λ b. words_of one ++ b) (of_rest between rest)

pub of_enclosed : (left right : SignOf) (list : List Measures) → words_of (enclosed left right list)
    ≡ listed_in left right (map words_of list)
of_enclosed left right [] = refl
of_enclosed left right (one ∷ rest) =
    ap (λ ws. (record { what = Rattle.au_base.specs.declared.tokens.What.TheVariants.Sign left; places = [] }) ∷ ws)
    (join (m.listed (one ∷ rest)) (plains (mark right))
    ∙ ap (λ ws. ws ++ mark right) (of_joined (plains (mark Comma)) (one ∷ rest)))

pub of_flat : {A : Type 0} (f : A → Measures) (g : A → Words) → ((x : A) → words_of (f x) ≡ g x) → (xs : List A) →
    words_of (flat_map f xs) ≡ flat_map g xs
of_flat f g same [] = refl
of_flat f g same (x ∷ xs) = join (f x) (flat_map f xs) ∙ ap₂ (λ a b. a ++ b) (same x) (of_flat f g same xs)

pub of_map : {A : Type 0} (f : A → Measures) (g : A → Words) → ((x : A) → words_of (f x) ≡ g x) → (xs : List A) →
    map words_of (map f xs) ≡ map g xs
of_map f g same [] = refl
of_map f g same (x ∷ xs) = ap₂ (λ a b. a ∷ b) (same x) (of_map f g same xs)

-- ---- types

mutual
  pub of_type : (t : WrittenType) → words_of (type_measures t) ≡ type_words t
  of_type (named name args) =
      of_first (plains (name_words name) ++ enclosed LeftBracket RightBracket (measures_of_types args))
      ∙ join (plains (name_words name)) (enclosed LeftBracket RightBracket (measures_of_types args))
      ∙ ap (λ ws. name_words name ++ ws) (of_enclosed LeftBracket RightBracket (measures_of_types args)
      ∙ ap (listed_in LeftBracket RightBracket) (of_types args))
  of_type (reference at access target region) =
      of_begun at (begins_type (plains (mark (access_sign access) ++ mark LeftBracket)
      ++ (under (type_measures target) ++ (plains (mark Comma) ++ (region_words region ++ plains (mark RightBracket))))))
      ∙ ap (λ ws. w.begun at (mark (access_sign access) ++ mark LeftBracket ++ ws))
      (join (under (type_measures target)) (plains (mark Comma) ++ (region_words region ++ plains (mark RightBracket)))
      ∙ ap (λ ws. ws ++ (mark Comma ++ name_words region ++ mark RightBracket))
      (of_under (type_measures target) ∙ of_type target))
      ∙ ap (λ ws. w.begun at (mark (access_sign access) ++ mark LeftBracket ++ ws))
      (sym (append_assoc (type_words target ++ mark Comma) (name_words region) (mark RightBracket)
      ∙ append_assoc (type_words target) (mark Comma) (name_words region ++ mark RightBracket)))

  pub of_types : (ts : WrittenTypes) → map words_of (measures_of_types ts) ≡ words_of_types ts
  of_types no_types = refl
  of_types (types t rest) = ap₂ (λ a b. a ∷ b) (of_under (type_measures t) ∙ of_type t) (of_types rest)

pub of_written : (t : WrittenType) → words_of (written t) ≡ type_words t
of_written t = of_counted 0 0 (type_measures t) ∙ of_type t
