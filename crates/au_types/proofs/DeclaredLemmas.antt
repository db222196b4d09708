-- Lemmas on the names that declarations bring in.
use Rattle.std.proofs.Common.{◌≡◌, ℕ, ◌+◌, ◌<◌, List, [], ◌∷◌, ◌++◌, length, take, get_or, map, refl, sym, ap}
use Rattle.std.proofs.Common.{◌∙◌, append_assoc, length-take, arith}
use Rattle.std.proofs.lemmas.List.{take_more, append-nil, map_push, length-map}
use Rattle.au_syntax.specs.Plain.{Bytes, PlainDeclaration}
use Rattle.au_types.specs.declared.spaces.Space.{Space}
use Rattle.au_types.specs.Tables.{with_pair, with_all, firsts}
use Rattle.au_types.specs.DeclaredNames.{declared_names, numbered, given, names_in, table_of}
use Rattle.au_types.proofs.TableLemmas.{firsts-append, with_all-push}

-- the numbers go on
pub numbered-append : (first : ℕ) (ds es : List PlainDeclaration)
    → numbered first (ds ++ es) ≡ numbered first ds ++ numbered (first + length ds) es
unfolding numbered
numbered-append first [] es = ap (λ n. numbered n es) (omega arith)
numbered-append first (d ∷ ds) es =
    ap (λ r. (first, d) ∷ r) (numbered-append (first + 1) ds es)
    ∙ ap (λ n. (first, d) ∷ (numbered (first + 1) ds ++ numbered n es)) (omega arith)

-- the names of declarations, and of one more
names_in-push : (space : Space) (ds : List (ℕ × PlainDeclaration)) (d : ℕ × PlainDeclaration)
    → names_in space (ds ++ d ∷ []) ≡ names_in space ds ++ given d.0 (declared_names space d.1)
unfolding names_in
names_in-push space [] d = append-nil (given d.0 (declared_names space d.1))
names_in-push space (e ∷ es) d =
    ap (λ r. given e.0 (declared_names space e.1) ++ r) (names_in-push space es d)
    ∙ sym (append_assoc (given e.0 (declared_names space e.1)) (names_in space es)
    (given d.0 (declared_names space d.1)))

-- the table of no declaration
pub no_declarations : (space : Space) (first : ℕ) → [] ≡ firsts (names_in space (numbered first []))
unfolding names_in numbered firsts
no_declarations space first = refl

pub one_number : (first : ℕ) (d : PlainDeclaration) → numbered first (d ∷ []) ≡ (first, d) ∷ []
unfolding numbered
one_number first d = refl

module _ {A B : Type 0} (p : B → PlainDeclaration) (v : A → B) where
  -- the table of declarations that are seen through two views, and of one more
  pub table_more : (space : Space) (first : ℕ) (xs : List A) (i : ℕ) (d : A) → i < length xs →
      firsts (names_in space (numbered first (map p (map v (take (i + 1) xs)))))
      ≡ with_all (firsts (names_in space (numbered first (map p (map v (take i xs))))))
      (given (first + i) (declared_names space (p (v (get_or xs i d)))))
  table_more space first xs i d h =
      let seen = map p (map v (take i xs)) in
      let one = p (v (get_or xs i d)) in
      let split : map p (map v (take (i + 1) xs)) ≡ seen ++ one ∷ [] =
      ap (λ r. map p (map v r)) (take_more xs i d h) ∙ ap (map p) (map_push v (take i xs) (get_or xs i d))
      ∙ map_push p (map v (take i xs)) (v (get_or xs i d)) in
      let many : length seen ≡ i = length-map (map v (take i xs)) p ∙ length-map (take i xs) v
      ∙ omega (arith, length-take i xs) in
      let numbers : numbered first (seen ++ one ∷ []) ≡ numbered first seen ++ (first + i, one) ∷ [] =
      numbered-append first seen (one ∷ [])
      ∙ ap (λ r. numbered first seen ++ r) (one_number (first + length seen) one
      ∙ ap (λ n. (first + n, one) ∷ []) many) in
      ap (λ r. firsts (names_in space (numbered first r))) split
      ∙ ap (λ r. firsts (names_in space r)) numbers
      ∙ ap firsts (names_in-push space (numbered first seen) (first + i, one))
      ∙ firsts-append (names_in space (numbered first seen)) (given (first + i) (declared_names space one))

-- names of parts that are seen through two views, and of one more
pub given_more : {A B D : Type 0} (name_of : D → Bytes) (p : B → D) (v : A → B) (table : List (Bytes × ℕ))
    (number : ℕ) (xs : List A) (i : ℕ) (d : A) → i < length xs →
    with_all table (given number (map name_of (map p (map v (take (i + 1) xs)))))
    ≡ with_pair (with_all table (given number (map name_of (map p (map v (take i xs))))))
    (name_of (p (v (get_or xs i d)))) number
given_more name_of p v table number xs i d h =
    let x = get_or xs i d in
    let split : map name_of (map p (map v (take (i + 1) xs)))
    ≡ map name_of (map p (map v (take i xs))) ++ name_of (p (v x)) ∷ [] =
    ap (λ r. map name_of (map p (map v r))) (take_more xs i d h)
    ∙ ap (λ r. map name_of (map p r)) (map_push v (take i xs) x)
    ∙ ap (map name_of) (map_push p (map v (take i xs)) (v x))
    ∙ map_push name_of (map p (map v (take i xs))) (p (v x)) in
    ap (λ r. with_all table (given number r)) split
    ∙ ap (with_all table) (map_push (λ name. (name, number)) (map name_of (map p (map v (take i xs))))
    (name_of (p (v x))))
    ∙ with_all-push table (given number (map name_of (map p (map v (take i xs))))) (name_of (p (v x)), number)

-- one more name is put, that of the part at a place
pub given_step : {A B D : Type 0} (name_of : D → Bytes) (p : B → D) (v : A → B)
    (table before after : List (Bytes × ℕ)) (number : ℕ) (xs : List A) (i : ℕ) (x : A) → i < length xs
    → x ≡ get_or xs i x → before ≡ with_all table (given number (map name_of (map p (map v (take i xs)))))
    → after ≡ with_pair before (name_of (p (v x))) number
    → after ≡ with_all table (given number (map name_of (map p (map v (take (i + 1) xs)))))
given_step name_of p v table before after number xs i x h here old new =
    new
    ∙ ap (λ t. with_pair t (name_of (p (v x))) number) old
    ∙ ap (λ y. with_pair (with_all table (given number (map name_of (map p (map v (take i xs))))))
    (name_of (p (v y))) number) here
    ∙ sym (given_more name_of p v table number xs i x h)

-- the names of one more declaration are put, that at a place
pub table_step : {A B : Type 0} (p : B → PlainDeclaration) (v : A → B) (space : Space) (first : ℕ)
    (before after : List (Bytes × ℕ)) (xs : List A) (i : ℕ) (x : A) → i < length xs
    → x ≡ get_or xs i x → before ≡ table_of space (numbered first (map p (map v (take i xs))))
    → after ≡ with_all before (given (first + i) (declared_names space (p (v x))))
    → after ≡ table_of space (numbered first (map p (map v (take (i + 1) xs))))
table_step p v space first before after xs i x h here old new =
    new
    ∙ ap (λ t. with_all t (given (first + i) (declared_names space (p (v x))))) old
    ∙ ap (λ y. with_all (table_of space (numbered first (map p (map v (take i xs)))))
    (given (first + i) (declared_names space (p (v y))))) here
    ∙ sym (table_more p v space first xs i x h)
