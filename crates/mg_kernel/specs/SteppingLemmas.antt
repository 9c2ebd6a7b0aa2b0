-- What a line adds to a session: the keys that are kept after it, and what it cost.
use Rattle.std.{proofs.Common.{refl, sym, ap, ◌∙◌, arith, subst}, specs.Prelude.{ℕ, ◌≡◌, ◌≤◌, ◌+◌, Bool, List, [], ◌∷◌}}
use Rattle.std.specs.Prelude.{◌++◌, Option}
use Rattle.{mg_disk.specs.Disk.Image, mg_kernel.specs.{Meaning.{keeps_key, now_of, same_keys, seats_in}, Opening.Holds}}
use Rattle.mg_kernel.specs.{Stepping.{IsSpent, IsStepped}, declared.kernel.Kernel.Kernel}
use Rattle.mg_laws.specs.Costs.{CostsGoOn, EventsGoOn, LimitsWithinCost, StaysWarm}
use Rattle.mg_model.specs.{Accesses.line_words, Events.events, Kept.{KeepsLine, KeepsWarm, line_limit}, Keys.Key}
use Rattle.mg_model.specs.{Print.{replies_text, reply_line}, Refused.Answer, State.State, Step.{after, step}}
use Rattle.mg_model.specs.{Warmth.{Event, cost, line_cost}, declared.{calls.Line.Line, replies.Reply.Reply}}
use Rattle.mg_serve.specs.{Counting.CountsEach, Machines.{AnswersLine, Commits}}

-- what the laws say of a line more
pub record GoesOn : Type 0 where
  pub stays : StaysWarm KeepsWarm
  pub limit : LimitsWithinCost line_limit
  pub events : EventsGoOn events
  pub costs : CostsGoOn cost

-- each key is kept that would be warm after a line more
pub warm-more : GoesOn → (s now : State) (ls : List Line) (line : Line) (kept kept' : Key → Bool) (n n' : ℕ) → KeepsWarm (events [] s ls) kept → now ≡ after s ls
    → KeepsLine now line kept kept' n n' → KeepsWarm (events [] s (ls ++ line ∷ [])) kept'
warm-more laws s now ls line kept kept' n n' warm is keeps =
    let event : Event = record { state = after s ls; line = line } in
    let line_keeps : KeepsLine (after s ls) line kept kept' n n' = subst (λ (v : State). KeepsLine v line kept kept' n n') is keeps in
    subst (λ (v : List Event). KeepsWarm v kept') (sym (laws.events [] s ls line)) (laws.stays (events [] s ls) event kept kept' warm line_keeps.keys)

-- the counter stays within the cost of the lines
pub spent-line : GoesOn → (s now : State) (ls : List Line) (line : Line) (kept : Key → Bool) (first n n' : ℕ) → KeepsWarm (events [] s ls) kept → now ≡ after s ls → n ≤ first + cost s ls
    → n' ≤ n + line_limit kept now line → n' ≤ first + cost s (ls ++ line ∷ [])
spent-line laws s now ls line kept first n n' warm is spent few =
    let within : line_limit kept now line ≤ line_cost (events [] s ls) (after s ls) line =
    subst (λ (v : State). line_limit kept v line ≤ line_cost (events [] s ls) (after s ls) line) (sym is) (laws.limit (events [] s ls) kept (after s ls) line warm) in
    let sum = laws.costs s ls line in
    omega (arith, sum)

-- each line counts, and one more
counts-more : (past : List Event) (s : State) (ls : List Line) (line : Line) (n n' n'' : ℕ) → CountsEach past s ls n n' → n' + line_words (after s ls) line ≤ n''
    → n'' ≤ n' + line_cost (events past s ls) (after s ls) line → CountsEach past s (ls ++ line ∷ []) n n''
counts-more past s [] line n n' n'' is least most = (n'', omega (arith, is, least), omega (arith, is, most), refl)
counts-more past s (l ∷ ls) line n n' n'' c least most = (c.0, c.1, c.2, counts-more (record { state = s; line = l } ∷ past) (step s l).0 ls line c.0 n' n'' c.3 least most)

counts-line : GoesOn → (s now : State) (ls : List Line) (line : Line) (kept kept' : Key → Bool) (first n n' : ℕ) → KeepsWarm (events [] s ls) kept → now ≡ after s ls → CountsEach [] s ls first n
    → KeepsLine now line kept kept' n n' → CountsEach [] s (ls ++ line ∷ []) first n'
counts-line laws s now ls line kept kept' first n n' warm is counts keeps =
    let within : line_limit kept now line ≤ line_cost (events [] s ls) (after s ls) line =
    subst (λ (v : State). line_limit kept v line ≤ line_cost (events [] s ls) (after s ls) line) (sym is) (laws.limit (events [] s ls) kept (after s ls) line warm) in
    let most : n' ≤ n + line_cost (events [] s ls) (after s ls) line = omega (arith, within, keeps.most) in
    counts-more [] s ls line first n n' counts (subst (λ (v : State). n + line_words v line ≤ n') is keeps.least) most

-- a kernel with the same seats
pub warm-same : (past : List Event) (k k' : Kernel) → seats_in k' ≡ seats_in k → KeepsWarm past (λ key. keeps_key k key) → KeepsWarm past (λ key. keeps_key k' key)
warm-same past k k' same warm = record { each = λ key is. same_keys k k' same key ∙ warm.each key is }

-- what is said and kept from a line on
pub answers_line : (s now : State) (line : Line) (reply : Reply) → step s line ≡ (now, reply) → AnswersLine (replies_text s) (after s) (replies_text now) (after now) line reply
answers_line s now line reply is = record {
  says = λ ls. ap (λ (v : Answer). reply_line v.1 ++ replies_text v.0 ls) is;
  none = refl;
  keeps = λ ls. ap (λ (v : Answer). after v.0 ls) is;
}

-- a kernel steps a line more, or fails in it
pub stepped_line : GoesOn → (k k' : Kernel) (image : Image) (line : Line) (n' n'' : ℕ) → KeepsLine (now_of k image) line (λ key. keeps_key k key) (λ key. keeps_key k' key) n' n''
    → (old : Kernel) (first : Image) (ls : List Line) (n : ℕ) → after (now_of old first) ls ≡ now_of k image → IsStepped old first ls n n' k → IsStepped old first (ls ++ line ∷ []) n n'' k'
stepped_line laws k k' image line n' n'' keeps old first ls n now st = record {
  warm = warm-more laws (now_of old first) (now_of k image) ls line (λ key. keeps_key k key) (λ key. keeps_key k' key) n' n'' st.warm (sym now) keeps;
  spent = spent-line laws (now_of old first) (now_of k image) ls line (λ key. keeps_key k key) n n' n'' st.warm (sym now) st.spent keeps.most;
  counts = counts-line laws (now_of old first) (now_of k image) ls line (λ key. keeps_key k key) (λ key. keeps_key k' key) n n' n'' st.warm (sym now) st.counts keeps;
}

pub stopped_line : GoesOn → (k k' : Kernel) (image : Image) (line : Line) (n' n'' : ℕ) → n'' ≤ n' + line_limit (λ key. keeps_key k key) (now_of k image) line
    → (old : Kernel) (first : Image) (ls : List Line) (n : ℕ) → after (now_of old first) ls ≡ now_of k image → IsStepped old first ls n n' k → IsSpent old first (ls ++ line ∷ []) n n'' k'
stopped_line laws k k' image line n' n'' few old first ls n now st =
    spent-line laws (now_of old first) (now_of k image) ls line (λ key. keeps_key k key) n n' n'' st.warm (sym now) st.spent few

-- a commit leaves what was said of the lines
pub stepped_same : (k k' : Kernel) → seats_in k' ≡ seats_in k → (old : Kernel) (first : Image) (ls : List Line) (n n' : ℕ) → IsStepped old first ls n n' k → IsStepped old first ls n n' k'
stepped_same k k' seats old first ls n n' st = record { warm = warm-same (events [] (now_of old first) ls) k k' seats st.warm; spent = st.spent; counts = st.counts }

-- a commit leaves what is said and kept
pub commits : (s : State) (k' : Kernel) (told : Option Image) → Holds s k' told → Commits (replies_text s) (after s) (λ image. replies_text (now_of k' image)) (λ image. after (now_of k' image)) told
commits s k' told h = record {
  image = h.image;
  seen = h.is;
  spelled = h.kept;
  says = λ ls. ap (λ v. replies_text v ls) h.now;
  keeps = λ ls. ap (λ v. after v ls) h.now;
}
