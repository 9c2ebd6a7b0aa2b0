-- Where a text is cut: a word ends at a blank, a line at its newline, and lines of one kind before a line of another.
use Rattle.mg_show_laws.proofs.Names.{flat_map, if◌then◌else◌, ◌==◌, ◌≡◌, ℕ, ◌+◌, ◌<◌, ◌≤◌, List, [], ◌∷◌, ◌++◌, get_or, map, refl, ap, sym, ◌∙◌}
use Rattle.mg_show_laws.proofs.Names.{arith, append_assoc, All, append_cancel_left, All-head, All-tail, spaced, High, line}

-- two things are one, and what stands behind the text of each
abbrev pub Same : {A : Type 0} → A → A → List ℕ → List ℕ → Type 0
Same x y r s = (x ≡ y) × (r ≡ s)

-- a text that begins with a byte at which a word with P ends
abbrev pub EndsAt : (ℕ → Type 0) → List ℕ → Type 0
EndsAt P [] = ⊥
EndsAt P (b ∷ bytes) = P b → ⊥

-- two words whose bytes have P, and what stands behind them
pub cut : (In : List ℕ → Type 0) (P : ℕ → Type 0) → ((b : ℕ) (bytes : List ℕ) → In (b ∷ bytes) → P b × In bytes)
    → (xs ys s t : List ℕ) → In xs → In ys → EndsAt P s → EndsAt P t → xs ++ s ≡ ys ++ t → Same xs ys s t
cut In P split [] [] s t in_x in_y end_s end_t e = (refl, e)
cut In P split [] (y ∷ ys) [] t in_x in_y end_s end_t e = absurd end_s
cut In P split [] (y ∷ ys) (b ∷ s) t in_x in_y end_s end_t e = grind arith
cut In P split (x ∷ xs) [] s [] in_x in_y end_s end_t e = absurd end_t
cut In P split (x ∷ xs) [] s (b ∷ t) in_x in_y end_s end_t e = grind arith
cut In P split (x ∷ xs) (y ∷ ys) s t in_x in_y end_s end_t e =
    let same : x ≡ y = cc in
    let tails : xs ++ s ≡ ys ++ t = cc in
    let rest = cut In P split xs ys s t (split x xs in_x).1 (split y ys in_y).1 end_s end_t tails in
    (cc (same, rest.0), rest.1)

-- words without a blank: all their bytes are from - on
abbrev pub AllHigh : List (List ℕ) → Type 0
AllHigh [] = Unit {0}
AllHigh (w ∷ words) = High w × AllHigh words

abbrev IsHigh : ℕ → Type 0
IsHigh b = 45 ≤ b

words-end : (words : List (List ℕ)) (r : List ℕ) → EndsAt IsHigh (spaced words ++ 10 ∷ r)
words-end [] r = λ high. absurd (omega arith)
words-end (w ∷ words) r = λ high. absurd (omega arith)

spaced-cut : (ws vs : List (List ℕ)) (r s : List ℕ) → AllHigh ws → AllHigh vs → spaced ws ++ 10 ∷ r ≡ spaced vs ++ 10 ∷ s → Same ws vs r s
spaced-cut [] [] r s high high' e = (refl, cc)
spaced-cut [] (v ∷ vs) r s high high' e = absurd cc
spaced-cut (w ∷ ws) [] r s high high' e = absurd cc
spaced-cut (w ∷ ws) (v ∷ vs) r s high high' e =
    let tails : (w ++ spaced ws) ++ 10 ∷ r ≡ (v ++ spaced vs) ++ 10 ∷ s = cc in
    let apart = sym (append_assoc w (spaced ws) (10 ∷ r)) ∙ tails ∙ append_assoc v (spaced vs) (10 ∷ s) in
    let here = cut High IsHigh (λ b bytes h. h) w v _ _ high.0 high'.0 (words-end ws r) (words-end vs s) apart in
    let rest = spaced-cut ws vs r s high.1 high'.1 here.1 in
    (cc (here.0, rest.0), rest.1)

line-apart : (head : List ℕ) (words : List (List ℕ)) (r : List ℕ) → line head words ++ r ≡ head ++ (spaced words ++ 10 ∷ r)
line-apart head words r = append_assoc (head ++ spaced words) (10 ∷ []) r ∙ append_assoc head (spaced words) (10 ∷ r)

-- two lines with one head, and what stands behind them
pub line-cut : (head : List ℕ) (ws vs : List (List ℕ)) (r s : List ℕ) → AllHigh ws → AllHigh vs → line head ws ++ r ≡ line head vs ++ s
    → Same ws vs r s
line-cut head ws vs r s high high' e = grind (arith, line-apart, spaced-cut, append_cancel_left)

-- the word at a place of two lines
pub nth : (k : ℕ) {ws vs : List (List ℕ)} → ws ≡ vs → get_or ws k [] ≡ get_or vs k []
nth k same = ap (λ (words : List (List ℕ)). get_or words k []) same

pub four-apart : (a b c d r : List ℕ) → (((a ++ b) ++ c) ++ d) ++ r ≡ a ++ (b ++ (c ++ (d ++ r)))
four-apart a b c d r = simp append_assoc

-- The kinds of line are told by their second byte. What stands behind a thing in the text has a lower rank than the thing's own parts:
-- account 8, password 7, entry 6, extension 5, object 4, slot 3, frame 2, thread 1, and word, or no line at all, 0.
abbrev pub rank : ℕ → ℕ
rank letter =
    if letter == 99 then 8
    else if letter == 97 then 7
    else if letter == 110 then 6
    else if letter == 120 then 5
    else if letter == 98 then 4
    else if letter == 108 then 3
    else if letter == 114 then 2
    else if letter == 104 then 1
    else 0

abbrev pub level : List ℕ → ℕ
level text = rank (get_or text 1 0)

-- the text of a thing with P tells it and what stands behind it, if that is below level n
abbrev pub Tells : {A : Type 0} → (A → Type 0) → ℕ → (A → List ℕ) → Type 0
Tells {A} P n text = (x y : A) (r s : List ℕ) → P x → P y → level r < n → level s < n → text x ++ r ≡ text y ++ s → Same x y r s

-- each text begins with a line of this level
abbrev pub IsAt : {A : Type 0} → ℕ → (A → List ℕ) → Type 0
IsAt {A} n text = (x : A) (r : List ℕ) → level (text x ++ r) ≡ n

-- a list and what stands behind it are below a level that both are below
pub list-level : {A : Type 0} (n m : ℕ) (text : A → List ℕ) (xs : List A) (r : List ℕ) → IsAt n text → n < m → level r < m
    → level (flat_map text xs ++ r) < m
list-level n m text [] r at low low' = low'
list-level n m text (x ∷ xs) r at low low' = grind (arith, append_assoc)

-- a list of things of one level, before what is below that
pub list-told : {A : Type 0} (P : A → Type 0) (n : ℕ) (text : A → List ℕ) → IsAt n text → Tells P (n + 1) text
    → (xs ys : List A) (r s : List ℕ) → All P xs → All P ys → level r < n → level s < n
    → flat_map text xs ++ r ≡ flat_map text ys ++ s → Same xs ys r s
list-told P n text at told [] [] r s all all' low low' e = (refl, e)
list-told P n text at told [] (y ∷ ys) r s all all' low low' e = grind (arith, append_assoc)
list-told P n text at told (x ∷ xs) [] r s all all' low low' e = grind (arith, append_assoc)
list-told P n text at told (x ∷ xs) (y ∷ ys) r s all all' low low' e =
    let apart = sym (append_assoc (text x) (flat_map text xs) r) ∙ e ∙ append_assoc (text y) (flat_map text ys) s in
    let behind = list-level n (n + 1) text xs r at (omega arith) (omega arith) in
    let behind' = list-level n (n + 1) text ys s at (omega arith) (omega arith) in
    let here = told x y (flat_map text xs ++ r) (flat_map text ys ++ s) (All-head P x xs all) (All-head P y ys all') behind behind' apart in
    let rest = list-told P n text at told xs ys r s (All-tail P x xs all) (All-tail P y ys all') low low' here.1 in
    (cc (here.0, rest.0), rest.1)

-- a map whose function tells its argument
pub map-told : {A B : Type 0} (P : A → Type 0) (f : A → B) → ((x y : A) → P x → P y → f x ≡ f y → x ≡ y)
    → (xs ys : List A) → All P xs → All P ys → map f xs ≡ map f ys → xs ≡ ys
map-told P f told [] [] all all' e = refl
map-told P f told [] (y ∷ ys) all all' e = absurd cc
map-told P f told (x ∷ xs) [] all all' e = absurd cc
map-told P f told (x ∷ xs) (y ∷ ys) all all' e =
    let first : f x ≡ f y = cc in
    let others : map f xs ≡ map f ys = cc in
    let same = told x y (All-head P x xs all) (All-head P y ys all') first in
    let rest = map-told P f told xs ys (All-tail P x xs all) (All-tail P y ys all') others in
    cc (same, rest)

pub map-high : {A : Type 0} (P : A → Type 0) (f : A → List ℕ) → ((x : A) → P x → High (f x)) → (xs : List A) → All P xs → AllHigh (map f xs)
map-high P f high [] all = tt
map-high P f high (x ∷ xs) all = (high x (All-head P x xs all), map-high P f high xs (All-tail P x xs all))

pub all-high-append : (ws vs : List (List ℕ)) → AllHigh ws → AllHigh vs → AllHigh (ws ++ vs)
all-high-append [] vs high high' = high'
all-high-append (w ∷ ws) vs high high' = (high.0, all-high-append ws vs high.1 high')

pub spaced-append : (ws vs : List (List ℕ)) → spaced (ws ++ vs) ≡ spaced ws ++ spaced vs
spaced-append [] vs = refl
spaced-append (w ∷ ws) vs = grind (arith, (spaced-append ws vs), append_assoc)

pub flat_map-over : {A B : Type 0} (f : B → List ℕ) (g : A → B) (xs : List A) → flat_map (λ (x : A). f (g x)) xs ≡ flat_map f (map g xs)
flat_map-over f g [] = refl
flat_map-over f g (x ∷ xs) = ap (λ rest. f (g x) ++ rest) (flat_map-over f g xs)
