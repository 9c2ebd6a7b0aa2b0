-- An object's row as bytes, and what is read from them.
use Rattle.mg_model.specs.{Abbreviations.object_head, Bytes.{padded_to, words_bytes}, BytesLemmas.length-words_bytes, Spelling.object_bytes}
use Rattle.{mg_model.specs.{State.ObjectRow, declared.slots.Pw.Pw}, mg_rows.specs.Answers.extension_words, std.proofs.Common.{arith, ◌≡◌, ◌*◌, ◌-◌}}
use Rattle.std.proofs.{Common.{◌++◌, [], ◌∷◌, ℕ, List, length, map, replicate, ap, ◌∙◌, append_assoc}, lemmas.List.length-map}

pub head-spelled : (row : ObjectRow) (new mid old ext entries : List ℕ) (passwords : List Pw) (base pages account : ℕ) → old ≡ []
    → mid ≡ old ++ words_bytes (1 ∷ base ∷ pages ∷ account ∷ length passwords ∷ length entries ∷ []) → new ≡ mid ++ words_bytes ext
    → base ≡ row.base → pages ≡ row.pages → account ≡ row.account → passwords ≡ row.passwords → entries ≡ row.entries → ext ≡ extension_words row.extension
    → new ++ replicate 8 0 ≡ padded_to 80 (object_head row)
head-spelled row new mid old ext entries passwords base pages account e_old e_mid e_new b p a pws es x = grind arith

-- what is added, and the zeros that fill it up
pub padded : (new mid old part : List ℕ) (n used : ℕ) → mid ≡ old ++ part → length part ≡ used → new ≡ mid ++ replicate (n - used) 0 → new ≡ old ++ padded_to n part
padded new mid old part n used e_mid long e_new = grind (arith, append_assoc)

pub length-words : {X : Type 0} (f : X → ℕ) (xs : List X) → length (words_bytes (map f xs)) ≡ 8 * length xs
length-words f xs = length-words_bytes (map f xs) ∙ ap (λ n. 8 * n) (length-map xs f)

-- parts that are added one by one
five_parts : (s1 s2 s3 s4 s5 a b c d e z : List ℕ) → s1 ≡ a → s2 ≡ s1 ++ b → s3 ≡ s2 ++ c → s4 ≡ s3 ++ d → s5 ≡ s4 ++ e → s5 ++ z ≡ a ++ (b ++ (c ++ (d ++ (e ++ z))))
five_parts s1 s2 s3 s4 s5 a b c d e z e1 e2 e3 e4 e5 = grind (arith, append_assoc)

pub object-spelled : (row : ObjectRow) (s1 s2 s3 s4 s5 es : List ℕ) (ps rs us : List Pw) → ps ≡ row.passwords → rs ≡ row.passwords → es ≡ row.entries → us ≡ row.passwords
    → s1 ≡ padded_to 80 (object_head row)
    → s2 ≡ s1 ++ padded_to 256 (words_bytes (map (λ (pw : Pw). pw.password) ps))
    → s3 ≡ s2 ++ padded_to 32 (map (λ (pw : Pw). pw.rights) rs)
    → s4 ≡ s3 ++ padded_to 128 (words_bytes es)
    → s5 ≡ s4 ++ padded_to 256 (words_bytes (map (λ (pw : Pw). pw.until) us))
    → s5 ++ replicate 272 0 ≡ object_bytes row
object-spelled row s1 s2 s3 s4 s5 es ps rs us e_ps e_rs e_es e_us e1 e2 e3 e4 e5 =
    five_parts s1 s2 s3 s4 s5
    (padded_to 80 (object_head row)) (padded_to 256 (words_bytes (map (λ (pw : Pw). pw.password) row.passwords))) (padded_to 32 (map (λ (pw : Pw). pw.rights) row.passwords))
    (padded_to 128 (words_bytes row.entries)) (padded_to 256 (words_bytes (map (λ (pw : Pw). pw.until) row.passwords))) (replicate 272 0)
    e1
    (e2 ∙ ap (λ (v : List Pw). s1 ++ padded_to 256 (words_bytes (map (λ (pw : Pw). pw.password) v))) e_ps)
    (e3 ∙ ap (λ (v : List Pw). s2 ++ padded_to 32 (map (λ (pw : Pw). pw.rights) v)) e_rs)
    (e4 ∙ ap (λ (v : List ℕ). s3 ++ padded_to 128 (words_bytes v)) e_es)
    (e5 ∙ ap (λ (v : List Pw). s4 ++ padded_to 256 (words_bytes (map (λ (pw : Pw). pw.until) v))) e_us)

-- a block of n bytes that is filled up
pub filled-up : (whole part : List ℕ) (n used left : ℕ) → whole ≡ padded_to n part → length part ≡ used → n - used ≡ left → whole ≡ part ++ replicate left 0
filled-up whole part n used left is long rest = is ∙ ap (λ k. part ++ replicate (n - k) 0) long ∙ ap (λ k. part ++ replicate k 0) rest
