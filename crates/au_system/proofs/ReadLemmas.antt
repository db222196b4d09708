-- The front of a file that is read into a room.
use Rattle.std.proofs.Common.{◌≡◌, ℕ, List, ◌++◌, [], take, Option, Some, None, IfSome, ap, ◌∙◌, subst, arith}
use Rattle.std.specs.Option.{option_map}
use Rattle.std.proofs.lemmas.List.{take-take}

-- cut off where reading had to end
kept_so : (n : ℕ) (known : Option (List ℕ)) (read kept : List ℕ) →
    IfSome (option_map (take n) known) (λ bytes. read ≡ bytes) → kept ≡ take n read →
    IfSome known (λ bytes. kept ≡ take n bytes)
kept_so n None read kept h e = tt
kept_so n (Some bytes) read kept h e = e ∙ ap (take n) h ∙ take-take n n bytes (omega arith)

-- the room holds the front of the bytes that the file had
pub front_read : (n limit : ℕ) (known had : Option (List ℕ)) (room read kept : List ℕ) → limit ≡ n →
    had ≡ known → room ≡ [] →
    IfSome (option_map (take limit) had) (λ bytes. read ≡ room ++ bytes) → kept ≡ take n read →
    IfSome known (λ bytes. kept ≡ take n bytes)
front_read n limit known had room read kept same file none h e =
    kept_so n known read kept (
    subst (λ r. IfSome (option_map (take n) known) (λ bytes. read ≡ r ++ bytes)) none (
    subst (λ k. IfSome (option_map (take n) k) (λ bytes. read ≡ room ++ bytes)) file (
    subst (λ l. IfSome (option_map (take l) had) (λ bytes. read ≡ room ++ bytes)) same h))) e
