-- What is printed assembles to itself.
use Rattle.mg_asm.proofs.{Numbers.{distance_of-back, immediate_of-back, name_of-signed, register_of-back, signed-high}, Stepwise.items-stepwise}
use Rattle.mg_asm.{proofs.Stepwise.{items_behind, with_item, words-stepwise, words_behind, words_in-more}, specs.Assembled.{assembled, behind}}
use Rattle.mg_asm.specs.{Assembled.{word_limit, words_in, words_of}, LineLemmas.{AreWords, all-words, line-misses, newline_low, number-word}}
use Rattle.mg_asm.specs.{LineLemmas.{some_word, split-before, split-spaced, split-whole}, Printed.{instruction_words, printed, printed_words}}
use Rattle.mg_asm.specs.{Printed.{signed_text, word_line}, Reading.{as_word, from, jump_to, line_reading, on_ok, reading, register_1_and_immediate}}
use Rattle.mg_asm.specs.{Reading.{registers_2, registers_2_and_immediate, registers_3}, Tokens.{begins_note, first_piece, is_gap, line_tokens}}
use Rattle.{mg_asm.specs.{Tokens.tokens, declared.{faults.AsmKind.TheVariants.{Register, TooLong}, items.Item.Item}}, mg_model.specs.Print.hex_text}
use Rattle.mg_model.specs.{Print.spaced, Ranges.IsWord, Script.decoded, Words.{is_newline, is_some_word}, declared.instructions.Instr.Instr}
use Rattle.{mg_script.specs.{DecodedLemmas.{decoded-registers, decoded-word}, Encoded.{HasRegisters, encoded}}, mg_text.specs.NumberLemmas.High}
use Rattle.{mg_text.specs.NumberLemmas.{hex-high, hex-some, number_of-hex}, std.proofs.Common.{◌≡◌, ℕ, ◌+◌, ◌-◌, ◌*◌, ◌^◌, ◌<◌, ◌≤◌, nat_lt, Bool}}
use Rattle.std.proofs.Common.{true, false, List, [], ◌∷◌, ◌++◌, length, filter, All, Option, Some, None, IfSome, Ok, Err, if◌then◌else◌, codes, refl}
use Rattle.std.proofs.{Common.{ap, sym, ◌∙◌, subst, rules, arith, append_assoc}, lemmas.{Bool.{lt-ltb, Decides.nat_tests}, Fmt.decimal_nonempty}}
use Rattle.std.{proofs.lemmas.List.Elements.{All-head, All-tail}, specs.{Fmt.decimal, List.slice_split, Option.option_map_or, Result.result_flatten}}
use Rattle.mg_asm.specs.declared.items.Item.TheVariants as item
use Rattle.mg_model.specs.declared.instructions.Instr.TheVariants as op

gap_low : (b : ℕ) → 45 ≤ b → is_gap b ≡ false
gap_low b h = grind (arith, nat_tests)

note_low : (b : ℕ) → 45 ≤ b → begins_note b ≡ false
note_low b h = grind (arith, nat_tests)

line-tokens : (t : List ℕ) (ts : List (List ℕ)) → is_some_word t ≡ true → High t → AreWords ts → line_tokens (t ++ spaced ts) ≡ t ∷ ts
line-tokens t ts some h are =
    ap (λ ps. tokens (first_piece ps)) (split-whole begins_note (t ++ spaced ts) (line-misses begins_note note_low refl t ts h are))
    ∙ ap (filter is_some_word) (split-spaced is_gap gap_low refl t ts h are)
    ∙ all-words (t ∷ ts) ((some, h), are)

-- operands
register-word : (a : ℕ) → a < 8 → (is_some_word (decimal a) ≡ true) × High (decimal a)
register-word a h = number-word a (omega arith)

signed-case : (i : ℕ) (v : Bool) → i < 2 ^ 32 → is_some_word (if v then decimal i else 45 ∷ decimal (2 ^ 32 - i)) ≡ true
signed-case i true fits = some_word (decimal i) (decimal_nonempty i (omega arith))
signed-case i false fits = refl

signed-word : (i : ℕ) → i < 2 ^ 32 → (is_some_word (signed_text i) ≡ true) × High (signed_text i)
signed-word i fits = (signed-case i (nat_lt i (2 ^ 31)) fits, signed-high i fits)

registers_2-back : (a b : ℕ) → a < 8 → b < 8 → registers_2 (decimal a ∷ decimal b ∷ []) ≡ Ok (a, b)
registers_2-back a b ha hb = grind (arith, register_of-back)

registers_3-back : (a b c : ℕ) → a < 8 → b < 8 → c < 8 → registers_3 (decimal a ∷ decimal b ∷ decimal c ∷ []) ≡ Ok (a, b, c)
registers_3-back a b c ha hb hc = grind (arith, register_of-back)

register_1-back : (a i : ℕ) → a < 8 → i < 2 ^ 32 → register_1_and_immediate (decimal a ∷ decimal i ∷ []) ≡ Ok (a, i)
register_1-back a i ha hi = grind (arith, register_of-back, immediate_of-back)

registers_2_and-back : (a b i : ℕ) → a < 8 → b < 8 → i < 2 ^ 32 → registers_2_and_immediate (decimal a ∷ decimal b ∷ decimal i ∷ []) ≡ Ok (a, b, i)
registers_2_and-back a b i ha hb hi = grind (arith, register_of-back, immediate_of-back)

jump_to-back : (near i : ℕ) → i < 2 ^ 32 → jump_to near (signed_text i) ≡ Ok (item.Word (near + i * 2 ^ 32))
jump_to-back near i fits = grind (arith, name_of-signed, distance_of-back)

-- an instruction's words are those of its line, and spell its word
record IsReadBack (word : ℕ) (first : List ℕ) (more : List (List ℕ)) : Type 0 where
  pub some : is_some_word first ≡ true
  pub high : High first
  pub are : AreWords more
  pub read : reading (first ∷ more) ≡ Ok (item.Word word)

jumped : (near i word : ℕ) → near + i * 2 ^ 32 ≡ word → i < 2 ^ 32 → jump_to near (signed_text i) ≡ Ok (item.Word word)
jumped near i word e fits = jump_to-back near i fits ∙ ap (λ w. Ok (item.Word w)) e

high : (xs : List ℕ) (v : High xs) → High xs
high xs v = v

instruction-back : (instr : Instr) → HasRegisters instr → encoded instr < 2 ^ 64 → IsReadBack (encoded instr) (instruction_words instr).0 (instruction_words instr).1
instruction-back op.Halt h fits = record { some = refl; high = search rules; are = tt; read = refl }
instruction-back (op.Set a i) h fits =
    let small : i < 2 ^ 32 = omega arith in
    record {
      some = refl;
      high = search rules;
      are = (register-word a h, (number-word i (omega arith), tt));
      read = ap (λ r. as_word (on_ok (λ (x, y). op.Set x y) r)) (register_1-back a i h small);
    }
instruction-back (op.High a i) h fits =
    let small : i < 2 ^ 32 = omega arith in
    record {
      some = refl;
      high = search rules;
      are = (register-word a h, (number-word i (omega arith), tt));
      read = ap (λ r. as_word (on_ok (λ (x, y). op.High x y) r)) (register_1-back a i h small);
    }
instruction-back (op.Add a b c) h fits = record {
  some = refl;
  high = search rules;
  are = (register-word a h.0, (register-word b h.1, (register-word c h.2, tt)));
  read = ap (λ r. as_word (on_ok (λ (x, y, z). op.Add x y z) r)) (registers_3-back a b c h.0 h.1 h.2);
}
instruction-back (op.Sub a b c) h fits = record {
  some = refl;
  high = search rules;
  are = (register-word a h.0, (register-word b h.1, (register-word c h.2, tt)));
  read = ap (λ r. as_word (on_ok (λ (x, y, z). op.Sub x y z) r)) (registers_3-back a b c h.0 h.1 h.2);
}
instruction-back (op.Lt a b c) h fits = record {
  some = refl;
  high = search rules;
  are = (register-word a h.0, (register-word b h.1, (register-word c h.2, tt)));
  read = ap (λ r. as_word (on_ok (λ (x, y, z). op.Lt x y z) r)) (registers_3-back a b c h.0 h.1 h.2);
}
instruction-back (op.Load a b i) h fits =
    let small : i < 2 ^ 32 = omega arith in
    record {
      some = refl;
      high = search rules;
      are = (register-word a h.0, (register-word b h.1, (number-word i (omega arith), tt)));
      read = ap (λ r. as_word (on_ok (λ (x, y, z). op.Load x y z) r)) (registers_2_and-back a b i h.0 h.1 small);
    }
instruction-back (op.Store a b i) h fits =
    let small : i < 2 ^ 32 = omega arith in
    record {
      some = refl;
      high = search rules;
      are = (register-word a h.0, (register-word b h.1, (number-word i (omega arith), tt)));
      read = ap (λ r. as_word (on_ok (λ (x, y, z). op.Store x y z) r)) (registers_2_and-back a b i h.0 h.1 small);
    }
instruction-back (op.Jump i) h fits =
    let small : i < 2 ^ 32 = omega arith in
    record {
      some = refl;
      high = search rules;
      are = (signed-word i small, tt);
      read = jumped (encoded (op.Jump 0)) i (encoded (op.Jump i)) (omega arith) small;
    }
instruction-back (op.Jz a i) h fits =
    let small : i < 2 ^ 32 = omega arith in
    record {
      some = refl;
      high = search rules;
      are = (register-word a h, (signed-word i small, tt));
      read = ap (λ o. from Register o (λ x. jump_to (encoded (op.Jz x 0)) (signed_text i))) (register_of-back a h)
          ∙ jumped (encoded (op.Jz a 0)) i (encoded (op.Jz a i)) (omega arith) small;
    }
instruction-back (op.Jnz a i) h fits =
    let small : i < 2 ^ 32 = omega arith in
    record {
      some = refl;
      high = search rules;
      are = (register-word a h, (signed-word i small, tt));
      read = ap (λ o. from Register o (λ x. jump_to (encoded (op.Jnz x 0)) (signed_text i))) (register_of-back a h)
          ∙ jumped (encoded (op.Jnz a 0)) i (encoded (op.Jnz a i)) (omega arith) small;
    }
instruction-back (op.Pdx a b) h fits = record {
  some = refl;
  high = search rules;
  are = (register-word a h.0, (register-word b h.1, tt));
  read = ap (λ r. as_word (on_ok (λ (x, y). op.Pdx x y) r)) (registers_2-back a b h.0 h.1);
}
instruction-back op.Ret h fits = record { some = refl; high = search rules; are = tt; read = refl }
instruction-back op.Yield h fits = record { some = refl; high = search rules; are = tt; read = refl }
instruction-back op.Sys h fits = record { some = refl; high = search rules; are = tt; read = refl }

-- a word's line is read as the word
plain-back : (w : ℕ) → w < 2 ^ 64 → IsReadBack w (codes ".word") (hex_text w ∷ [])
plain-back w fits = grind (arith, hex-some, hex-high, number_of-hex)

by-decoded : (w : ℕ) (o : Option Instr) → w < 2 ^ 64 → IfSome o HasRegisters → IfSome o (λ instr. encoded instr ≡ w)
    → let p = option_map_or instruction_words o (codes ".word", hex_text w ∷ []) in IsReadBack w p.0 p.1
by-decoded w None fits has is = plain-back w fits
by-decoded w (Some instr) fits has is =
    subst (λ (v : ℕ). IsReadBack v (instruction_words instr).0 (instruction_words instr).1) is
    (instruction-back instr has (omega (arith, is)))

word-back : (w : ℕ) → w < 2 ^ 64 → IsReadBack w (printed_words w).0 (printed_words w).1
word-back w fits = by-decoded w (decoded w) fits (decoded-registers w) (decoded-word w)

word-reads : (w : ℕ) → w < 2 ^ 64 → line_reading (word_line w) ≡ Ok (item.Word w)
word-reads w fits = grind (arith, word-back, line-tokens)

-- the items of a printed text: the last line is empty
word_items : List ℕ → List Item
word_items [] = item.Blank ∷ []
word_items (w ∷ ws) = item.Word w ∷ word_items ws

room : (before : List Item) (w : ℕ) → words_in before < word_limit → behind before (Ok (item.Word w)) ≡ Ok (item.Word w)
room before w h = ap (λ v. if v then Ok (item.Word w) else Err TooLong) (lt-ltb (words_in before) word_limit h)

lines-back : (before : List Item) (ws : List ℕ) → All IsWord ws → words_in before + length ws ≤ word_limit
    → items_behind before (slice_split is_newline (printed ws)) ≡ Ok (before ++ word_items ws)
unfolding word_items
lines-back before [] fit few = refl
lines-back before (w ∷ ws) fit few =
    let fits = All-head IsWord w ws fit in
    let back = word-back w fits in
    let read : behind before (line_reading (word_line w)) ≡ Ok (item.Word w) = ap (behind before) (word-reads w fits) ∙ room before w (omega arith) in
    let rest = slice_split is_newline (printed ws) in
    let counted = words_in-more before (item.Word w) in
    ap (items_behind before) (split-before is_newline (word_line w) 10 (printed ws) (line-misses is_newline newline_low refl (printed_words w).0 (printed_words w).1 back.high back.are) refl)
    ∙ ap (λ r. with_item (length before + 1) r (λ made. items_behind (before ++ made ∷ []) rest)) read
    ∙ lines-back (before ++ item.Word w ∷ []) ws (All-tail IsWord w ws fit) (omega arith)
    ∙ ap (λ items. Ok items) (append_assoc before (item.Word w ∷ []) (word_items ws))

words-back : (all : List Item) (before : List ℕ) (n : ℕ) (ws : List ℕ) → words_behind all before n (word_items ws) ≡ Ok (before ++ ws)
unfolding word_items
words-back all before n [] = refl
words-back all before n (w ∷ ws) = words-back all (before ++ w ∷ []) (n + 1) ws ∙ ap (λ v. Ok v) (append_assoc before (w ∷ []) ws)

pub assembled-printed : (ws : List ℕ) → All IsWord ws → length ws ≤ 524288 → assembled (printed ws) ≡ Ok ws
assembled-printed ws fit few =
    ap (λ items. result_flatten (on_ok words_of items)) (sym (items-stepwise (slice_split is_newline (printed ws))) ∙ lines-back [] ws fit (omega arith))
    ∙ sym (words-stepwise (word_items ws)) ∙ words-back (word_items ws) [] 1 ws
