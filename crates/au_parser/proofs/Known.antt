-- Readers with their laws, where a tree's limits are those of its depth and of the types in it.
use Rattle.std.proofs.Common.{◌≡◌, ℕ, ◌<◌, Bool, true, not, ◌&&◌, List, [], ◌∷◌, ◌++◌, length, map, max}
use Rattle.std.proofs.Common.{Option, Some, Ok, sym, ap, ◌∙◌, subst, arith, inl, inr}
use Rattle.std.specs.List.{flat_map, list_all}
use Rattle.au_base.specs.declared.limits.Limit.{Limit}
use Rattle.au_base.specs.declared.places.Pos.{Pos}
use Rattle.au_base.specs.declared.tokens.Sign.{Sign as SignOf}
use Rattle.au_base.specs.declared.tokens.Sign.TheVariants.{Comma}
use Rattle.au_base.specs.declared.tokens.Token.{Token}
use Rattle.au_base.specs.declared.tokens.What.{What}
use Rattle.au_base.specs.declared.tokens.What.TheVariants.{Sign}
use Rattle.au_syntax.specs.Types.{WrittenType}
use Rattle.au_syntax.specs.Depths.{greatest}
use Rattle.au_syntax.specs.Forms.{some}
use Rattle.au_syntax.specs.Words as words
use Rattle.au_syntax.specs.Words.{Words, begun}
use Rattle.au_read_expressions.specs.Bounds.{Bounds, TreePasses}
use Rattle.au_read_expressions.specs.Reading.{Read, front, is_front, same_what, behind_tokens, closed, pair}
use Rattle.au_read_expressions.specs.Reading.{shaped, built, repeated, listed, bracketed}
use Rattle.au_read_expressions.specs.Spelling.{Begins, fixed}
use Rattle.au_read_expressions.proofs.Begins.{begins_split, front_of}
use Rattle.au_read_expressions.proofs.Forms.{Form, Sound, Finds, Reads, light, anything, behind_reads}
use Rattle.au_read_expressions.proofs.Forms.{closed_reads, pair_form, pair_reads, Shapes, shaped_reads}
use Rattle.au_read_expressions.proofs.Forms.{Builds, built_sound, built_found}
use Rattle.au_read_expressions.proofs.ListForms.{AllFit, OnePasses, repeated_form, repeated_reads}
use Rattle.au_read_expressions.proofs.ListForms.{listed_form, separated_reads, bracketed_form}
use Rattle.au_read_expressions.proofs.ListForms.{bracketed_reads}
use Rattle.au_read_expressions.proofs.Limits.{TreeFits, beside_fit, beside_passes}

-- what is said of a kind of tree: its words, whether it has its form, how deep it is and the types in it
pub record Said (A : Type 0) : Type 0 where
  pub words : A → Words
  pub good : A → Bool
  pub depth : A → ℕ
  pub types : A → List WrittenType

-- what is said of trees without depth and types, which always have their form
abbrev pub plain : {A : Type 0} → (A → Words) → Said A
plain words = record { words = words; good = λ x. true; depth = λ x. 0; types = λ x. [] }

abbrev pub behind_said : {A : Type 0} → List What → Said A → Said A
behind_said whats s = record { words = λ x. fixed whats ++ s.words x; good = s.good; depth = s.depth; types = s.types }

abbrev pub closed_said : {A : Type 0} → List What → Said A → Said A
closed_said whats s = record { words = λ x. s.words x ++ fixed whats; good = s.good; depth = s.depth; types = s.types }

abbrev pub pair_said : {A B : Type 0} → Said A → Said B → Said (A × B)
pair_said s t = record {
  words = λ x. s.words x.0 ++ t.words x.1;
  good = λ x. s.good x.0 && t.good x.1;
  depth = λ x. max (s.depth x.0) (t.depth x.1);
  types = λ x. s.types x.0 ++ t.types x.1;
}

abbrev pub repeated_said : {A : Type 0} → Said A → Said (List A)
repeated_said s = record {
  words = flat_map s.words;
  good = list_all s.good;
  depth = greatest s.depth;
  types =
      flat_map s.types;
}

abbrev pub listed_said : {A : Type 0} → Said A → Said (List A)
listed_said s = record {
  words = λ xs. words.listed (map s.words xs);
  good =
      λ xs. some xs && list_all s.good xs;
  depth = greatest s.depth;
  types = flat_map s.types;
}

abbrev pub bracketed_said : {A : Type 0} → SignOf → SignOf → Said A → Said (List A)
bracketed_said left right s = record {
  words = λ xs. words.listed_in left right (map s.words xs);
  good =
      list_all s.good;
  depth = greatest s.depth;
  types = flat_map s.types;
}

-- the same is said of a tree and of what it is built of
pub record Same {A B : Type 0} (s : Said A) (t : Said B) (build : A → B) : Type 0 where
  pub words : (x : A) → t.words (build x) ≡ s.words x
  pub good : (x : A) → t.good (build x) ≡ s.good x
  pub depth : (x : A) → t.depth (build x) ≡ s.depth x
  pub types : (x : A) → t.types (build x) ≡ s.types x

-- but for the place of the first word
pub record SameAt {A B : Type 0} (s : Said A) (t : Said B) (build : Pos → A → B) : Type 0 where
  pub words : (at : Pos) (x : A) → t.words (build at x) ≡ begun at (s.words x)
  pub some : (x : A) → 0 < length (s.words x)
  pub good : (at : Pos) (x : A) → t.good (build at x) ≡ s.good x
  pub depth : (at : Pos) (x : A) → t.depth (build at x) ≡ s.depth x
  pub types : (at : Pos) (x : A) → t.types (build at x) ≡ s.types x

-- a form told in other words
module _ {A : Type 0} (form : Form A) (Fits : A → Type 0) (Passes : A → Limit → Type 0)
    (fits : (x : A) → form.Fits x → Fits x) (passes : (x : A) (l : Limit) → form.Passes x l → Passes x l) where
  abbrev pub told_form : Form A
  told_form = record { words = form.words; good = form.good; Fits = Fits; Passes = Passes }

  pub told_reads : (ends : Option What → Bool) (read : List Token → Read A) → Reads form ends read →
      Reads told_form ends read
  told_reads ends read reads = record {
    sound = λ ts rest x e. let s = reads.sound ts rest x e
        in record { spelled = s.spelled; good = s.good; fits = fits x s.fits };
    found = λ x ts rest h good ended.
        elim (reads.found x ts rest h good ended) [
          | inl on ↦ inl on
          | inr p ↦ inr (p.0, p.1, p.2, passes x p.0 p.3)
        ];
  }

module _ (b : Bounds) where
  abbrev pub FitsIn : {A : Type 0} → Said A → A → Type 0
  FitsIn s x = TreeFits b b.nesting (s.depth x) (s.types x)

  abbrev pub PassesIn : {A : Type 0} → Said A → A → Limit → Type 0
  PassesIn s x l = TreePasses b b.nesting (s.depth x) (s.types x) l

  abbrev pub form_of : {A : Type 0} → Said A → Form A
  form_of s = record { words = s.words; good = s.good; Fits = FitsIn s; Passes = PassesIn s }

  -- a reader with its laws
  pub record Known (A : Type 0) : Type 0 where
    pub said : Said A
    pub ends : Option What → Bool
    pub read : List Token → Read A
    pub reads : Reads (form_of said) ends read

  module _ {A : Type 0} where
    pub light_known : (words : A → Words) (ends : Option What → Bool) (read : List Token → Read A) →
        Reads (light words) ends read → Reads (form_of (plain words)) ends read
    light_known words ends read reads = told_reads (light words) (FitsIn (plain words))
        (PassesIn (plain words)) (λ x h. (omega arith, tt)) (λ x l p. absurd p) ends read reads

    abbrev pub of_light : (words : A → Words) (ends : Option What → Bool) (read : List Token → Read A) →
        Reads (light words) ends read → Known A
    of_light words ends read reads =
        record { said = plain words; ends = ends; read = read; reads = light_known words ends read reads }

    abbrev pub then_behind : List What → Known A → Known A
    then_behind whats k = record {
      said = behind_said whats k.said;
      ends = k.ends;
      read =
          behind_tokens whats k.read;
      reads = behind_reads (form_of k.said) k.ends k.read k.reads whats;
    }

    abbrev pub then_closed : (what : What) (whats : List What) (k : Known A) → k.ends (Some what) ≡ true → Known A
    then_closed what whats k stops = record {
      said = closed_said (what ∷ whats) k.said;
      ends = anything;
      read = closed (what ∷ whats) k.read;
      reads = closed_reads (form_of k.said) k.ends k.read k.reads what whats stops;
    }

  -- ---- one behind another

  module _ {A B : Type 0} (j : Known A) (k : Known B) where
    abbrev pub Stops : Type 0
    Stops = (y : B) (ts rest : List Token) → Begins (k.said.words y) ts rest → k.said.good y ≡ true →
        k.ends (front rest) ≡ true → j.ends (front ts) ≡ true

    pub pair_known : Stops → Reads (form_of (pair_said j.said k.said)) k.ends (pair j.read k.read)
    pair_known stops =
        told_reads (pair_form (form_of j.said) (form_of k.said)) (FitsIn (pair_said j.said k.said))
        (PassesIn (pair_said j.said k.said))
        (λ x h. beside_fit b b.nesting (j.said.depth x.0) (k.said.depth x.1) (j.said.types x.0)
        (k.said.types x.1) h.0 h.1)
        (λ x l p. beside_passes b b.nesting (j.said.depth x.0) (k.said.depth x.1) (j.said.types x.0)
        (k.said.types x.1) l p)
        k.ends (pair j.read k.read)
        (pair_reads (form_of j.said) (form_of k.said) j.ends k.ends j.read j.reads k.read k.reads stops)

    abbrev pub both : Stops → Known (A × B)
    both stops = record {
      said = pair_said j.said k.said;
      ends = k.ends;
      read = pair j.read k.read;
      reads =
          pair_known stops;
    }

  -- the second begins with a fixed token
  module _ {A B : Type 0} (j : Known A) (what : What) (whats : List What) (k : Known B)
      (stops : j.ends (Some what) ≡ true) where
    pub behind_stops : Stops j (then_behind (what ∷ whats) k)
    behind_stops y ts rest h good ended =
        let s = begins_split (fixed (what ∷ whats)) (k.said.words y) ts rest h in
        ap j.ends (front_of (fixed (what ∷ whats)) ts s.0 (omega arith) s.1) ∙ stops

    abbrev pub both_behind : Known (A × B)
    both_behind = both j (then_behind (what ∷ whats) k) behind_stops

  -- ---- the same reader, of which other words say the same
  module _ {A : Type 0} (k : Known A) (s : Said A) where
    module _ (same : Same k.said s (λ x. x)) where
      pub retold_known : Reads (form_of s) k.ends k.read
      retold_known = record {
        sound = λ ts rest x e.
            let t = k.reads.sound ts rest x e in
            record {
              spelled = subst (λ ws. Begins ws ts rest) (sym (same.words x)) t.spelled;
              good = same.good x ∙ t.good;
              fits = subst (λ d. TreeFits b b.nesting d (s.types x)) (sym (same.depth x))
                  (subst (λ us. TreeFits b b.nesting (k.said.depth x) us) (sym (same.types x)) t.fits);
            };
        found = λ x ts rest h good ended.
            elim (k.reads.found x ts rest (subst (λ ws. Begins ws ts rest) (same.words x) h)
            (sym (same.good x) ∙ good) ended) [
              | inl on ↦ inl on
              | inr p ↦ inr (
                p.0,
                p.1,
                p.2,
                subst (λ d. TreePasses b b.nesting d (s.types x) p.0)
                    (sym (same.depth x)) (subst (λ us. TreePasses b b.nesting (k.said.depth x) us p.0)
                    (sym (same.types x)) p.3),
              )
            ];
      }

      abbrev pub retold : Known A
      retold = record { said = s; ends = k.ends; read = k.read; reads = retold_known }

  -- ---- built of others

  module _ {A B : Type 0} (k : Known A) (s : Said B) where
    module _ (build : A → B) (same : Same k.said s build) where
      pub shapes : Shapes (form_of k.said) (form_of s) k.ends k.read k.reads build
      shapes = record {
        words = same.words;
        good_to = λ x g. same.good x ∙ g;
        good_from = λ x g. sym (same.good x) ∙ g;
        fits = λ x h. subst (λ d. TreeFits b b.nesting d (s.types (build x))) (sym (same.depth x))
            (subst (λ ts. TreeFits b b.nesting (k.said.depth x) ts) (sym (same.types x)) h);
        passes = λ x l p. subst (λ d. TreePasses b b.nesting d (s.types (build x)) l) (sym (same.depth x))
            (subst (λ ts. TreePasses b b.nesting (k.said.depth x) ts l) (sym (same.types x)) p);
      }

      abbrev pub shape : (back : B → A) → ((y : B) → build (back y) ≡ y) → Known B
      shape back again = record {
        said = s;
        ends = k.ends;
        read = shaped build k.read;
        reads = shaped_reads (form_of k.said) (form_of s) k.ends k.read k.reads build shapes back again;
      }

    module _ (build : Pos → A → B) (same : SameAt k.said s build) where
      pub builds : Builds (form_of k.said) (form_of s) k.ends k.read k.reads build
      builds = record {
        words = same.words;
        some = same.some;
        good_to = λ at x g. same.good at x ∙ g;
        good_from = λ at x g. sym (same.good at x) ∙ g;
        fits = λ at x h. subst (λ d. TreeFits b b.nesting d (s.types (build at x))) (sym (same.depth at x))
            (subst (λ ts. TreeFits b b.nesting (k.said.depth x) ts) (sym (same.types at x)) h);
        passes = λ at x l p. subst (λ d. TreePasses b b.nesting d (s.types (build at x)) l)
            (sym (same.depth at x)) (subst (λ ts. TreePasses b b.nesting (k.said.depth x) ts l)
            (sym (same.types at x)) p);
      }

      pub row_sound : (ts rest : List Token) (y : B) → built build k.read ts ≡ Ok (y, rest) →
          Sound (form_of s) y ts rest
      row_sound = built_sound (form_of k.said) (form_of s) k.ends k.read k.reads build builds

      pub row_found : (at : Pos) (x : A) (ts rest : List Token) → Begins (s.words (build at x)) ts rest →
          s.good (build at x) ≡ true → k.ends (front rest) ≡ true
          → Finds (form_of s) (build at x) rest (built build k.read ts)
      row_found = built_found (form_of k.said) (form_of s) k.ends k.read k.reads build builds

  -- ---- lists

  module _ {A : Type 0} (s : Said A) where
    pub list_fits : (xs : List A) → AllFit (form_of s) xs → TreeFits b b.nesting (greatest s.depth xs)
        (flat_map s.types xs)
    list_fits [] h = (omega arith, tt)
    list_fits (x ∷ xs) h = beside_fit b b.nesting (s.depth x) (greatest s.depth xs) (s.types x)
        (flat_map s.types xs) h.0 (list_fits xs h.1)

    pub list_passes : (xs : List A) (l : Limit) → OnePasses (form_of s) xs l →
        TreePasses b b.nesting (greatest s.depth xs) (flat_map s.types xs) l
    list_passes [] l p = absurd p
    list_passes (x ∷ xs) l p =
        beside_passes b b.nesting (s.depth x) (greatest s.depth xs) (s.types x) (flat_map s.types xs) l (
        elim p [
          | inl q ↦ inl q
          | inr q ↦ inr (list_passes xs l q)
        ])

  module _ {A : Type 0} (k : Known A) (some_words : (x : A) → k.said.good x ≡ true → 0 < length (k.said.words x)) where
    abbrev pub ends_all : (Option What → Bool) → Option What → Bool
    ends_all begins what = not (begins what) && k.ends what

    module _ (begins : Option What → Bool)
        (starts : (x : A) (ts rest : List Token) → Begins (k.said.words x) ts rest → k.said.good x ≡ true →
        begins (front ts) ≡ true)
        (follows : (what : Option What) → begins what ≡ true → k.ends what ≡ true) where
      pub repeated_known : Reads (form_of (repeated_said k.said)) (ends_all begins) (repeated begins k.read)
      repeated_known =
          told_reads (repeated_form (form_of k.said)) (FitsIn (repeated_said k.said))
          (PassesIn (repeated_said k.said)) (list_fits k.said) (list_passes k.said)
          (ends_all begins) (repeated begins k.read)
          (repeated_reads (form_of k.said) k.ends begins k.read k.reads starts some_words follows)

      abbrev pub all_of : Known (List A)
      all_of = record {
        said = repeated_said k.said;
        ends = ends_all begins;
        read =
            repeated begins k.read;
        reads = repeated_known;
      }

    module _ (stops : k.ends (Some (Sign Comma)) ≡ true) where
      abbrev pub ends_list : Option What → Bool
      ends_list what = not (is_front (Sign Comma) what) && k.ends what

      pub listed_known : Reads (form_of (listed_said k.said)) ends_list (listed k.read)
      listed_known =
          told_reads (listed_form (form_of k.said)) (FitsIn (listed_said k.said))
          (PassesIn (listed_said k.said)) (list_fits k.said) (list_passes k.said)
          ends_list (listed k.read)
          (separated_reads (form_of k.said) k.ends k.read k.reads some_words (Sign Comma) stops)

      abbrev pub list_of : Known (List A)
      list_of = record { said = listed_said k.said; ends = ends_list; read = listed k.read; reads = listed_known }

      module _ (left right : SignOf)
          (closes : (not (same_what (Sign right) (Sign Comma)) && k.ends (Some (Sign right))) ≡ true) where
        abbrev pub ends_in : Option What → Bool
        ends_in what = not (is_front (Sign left) what)

        pub bracketed_known : Reads (form_of (bracketed_said left right k.said)) ends_in (bracketed left right k.read)
        bracketed_known =
            told_reads (bracketed_form (form_of k.said) left right)
            (FitsIn (bracketed_said left right k.said)) (PassesIn (bracketed_said left right k.said))
            (list_fits k.said) (list_passes k.said)
            ends_in (bracketed left right k.read)
            (bracketed_reads (form_of k.said) k.ends k.read k.reads some_words left right stops closes)

        abbrev pub list_in : Known (List A)
        list_in = record {
          said = bracketed_said left right k.said;
          ends = ends_in;
          read =
              bracketed left right k.read;
          reads = bracketed_known;
        }
