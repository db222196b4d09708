-- Two blanks more.
use Rattle.std.proofs.Common.{◌≡◌, ℕ, suc, ◌+◌, ◌-◌, ◌<◌, List, [], ◌∷◌, ◌++◌, ap, ◌∙◌, arith, append_assoc}
use Rattle.au_format.specs.Gaps.{indent}

pub indent_more : (text whole : List ℕ) (levels done : ℕ) → done < levels → text ++ indent (levels - done) ≡ whole →
    (text ++ 32 ∷ 32 ∷ []) ++ indent (levels - (done + 1)) ≡ whole
indent_more text whole levels done more h =
    append_assoc text (32 ∷ 32 ∷ []) (indent (levels - (done + 1)))
    ∙ ap (λ n. text ++ indent n) (let e : suc (levels - (done + 1)) ≡ levels - done = omega arith in e) ∙ h
