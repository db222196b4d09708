-- Words that are nested to the left and to the right are the same.
use Rattle.std.proofs.Common.{◌≡◌, ◌++◌, ◌∙◌, append_assoc}
use Rattle.au_syntax.specs.Words.{Words}

pub nest_3 : (a b c : Words) → a ++ b ++ c ≡ a ++ (b ++ c)
nest_3 a b c = append_assoc a b c

pub nest_4 : (a b c d : Words) → a ++ b ++ c ++ d ≡ a ++ (b ++ (c ++ d))
nest_4 a b c d = nest_3 (a ++ b) c d ∙ append_assoc a b (c ++ d)

pub nest_5 : (a b c d e : Words) → a ++ b ++ c ++ d ++ e ≡ a ++ (b ++ (c ++ (d ++ e)))
nest_5 a b c d e = nest_4 (a ++ b) c d e ∙ append_assoc a b (c ++ (d ++ e))

pub nest_6 : (a b c d e f : Words) → a ++ b ++ c ++ d ++ e ++ f ≡ a ++ (b ++ (c ++ (d ++ (e ++ f))))
nest_6 a b c d e f = nest_5 (a ++ b) c d e f ∙ append_assoc a b (c ++ (d ++ (e ++ f)))

pub nest_7 : (a b c d e f g : Words) → a ++ b ++ c ++ d ++ e ++ f ++ g ≡ a ++ (b ++ (c ++ (d ++ (e ++ (f ++ g)))))
nest_7 a b c d e f g = nest_6 (a ++ b) c d e f g ∙ append_assoc a b (c ++ (d ++ (e ++ (f ++ g))))

pub nest_8 : (a b c d e f g h : Words) → a ++ b ++ c ++ d ++ e ++ f ++ g ++ h ≡ a
    ++ (b ++ (c ++ (d ++ (e ++ (f ++ (g ++ h))))))
nest_8 a b c d e f g h = nest_7 (a ++ b) c d e f g h ∙ append_assoc a b (c ++ (d ++ (e ++ (f ++ (g ++ h)))))

pub nest_9 : (a b c d e f g h i : Words) → a ++ b ++ c ++ d ++ e ++ f ++ g ++ h ++ i ≡ a
    ++ (b ++ (c ++ (d ++ (e ++ (f ++ (g ++ (h ++ i)))))))
nest_9 a b c d e f g h i = nest_8 (a ++ b) c d e f g h i ∙ append_assoc a b (c ++ (d ++ (e ++ (f ++ (g ++ (h ++ i))))))

pub nest_10 : (a b c d e f g h i j : Words) → a ++ b ++ c ++ d ++ e ++ f ++ g ++ h ++ i ++ j ≡ a
    ++ (b ++ (c ++ (d ++ (e ++ (f ++ (g ++ (h ++ (i ++ j))))))))
nest_10 a b c d e f g h i j = nest_9 (a ++ b) c d e f g h i j
    ∙ append_assoc a b (c ++ (d ++ (e ++ (f ++ (g ++ (h ++ (i ++ j)))))))
