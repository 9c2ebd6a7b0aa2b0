use Rattle.{lru.specs.LruCache.{LruCache, lru_cache, put_entries}, mg_pages.{proofs.{Looked.look-refused, Showing.put-kept}, specs.Kept.KeepsThis}}
use Rattle.{mg_pages.specs.Kept.shown, std.proofs.Common.{◌≡◌, Box, Global, List, ℕ, ap, nat_eq, subst, sym, ◌∙◌}}
use Rattle.mg_pages.proofs.cache.Cache.add.Goals as goal

-- what is kept once a box with these bytes is added
in_box : (block : ℕ) (bytes : List ℕ) (kept : List (ℕ × List ℕ)) (was now : LruCache ℕ (Box (List ℕ) Global)) (boxed : Box (List ℕ) Global)
    → shown (λ b. b.value) was.entries ≡ kept → boxed.value ≡ bytes → now ≡ lru_cache (put_entries nat_eq was block boxed) was.cap
    → KeepsThis block bytes kept (shown (λ b. b.value) now.entries)
in_box block bytes kept was now boxed held holds put =
    subst (λ es. KeepsThis block bytes es (shown (λ b. b.value) now.entries)) held
    (subst (λ (l : LruCache _ _). KeepsThis block bytes (shown (λ b. b.value) was.entries) (shown (λ b. b.value) l.entries)) (sym put)
    (subst (λ is. KeepsThis block is (shown (λ b. b.value) was.entries) (shown (λ b. b.value) (put_entries nat_eq was block boxed))) holds
    (put-kept (λ b. b.value) was block boxed)))

pub returns-in-Ok-Some : goal.returns-in-Ok-Some
returns-in-Ok-Some c =
    in_box c.args.block c.args.bytes.now c.args.self.now c.self.inside.blocks c.push.new.self c.in-Some.boxed (c.self.view_is ∙ c.in-Some.ensures.same) c.in-Some.ensures.holds c.in-Ok-Some.ensures.entries

pub returns-in-Ok-None : goal.returns-in-Ok-None
returns-in-Ok-None c =
    in_box c.args.block c.args.bytes.now c.args.self.now c.self.inside.blocks c.push.new.self c.in-Some.boxed (c.self.view_is ∙ c.in-Some.ensures.same) c.in-Some.ensures.holds c.in-Ok-None.ensures.entries

pub returns : goal.returns
returns c =
    subst (λ es. KeepsThis c.args.block c.args.bytes.now c.args.self.now es)
    (sym (ap (λ l. shown (λ b. b.value) l.entries) c.in-Err.ensures.err ∙ c.self.view_is ∙ c.in-Some.ensures.same))
    (look-refused (lru_cache c.args.self.now 0) c.args.block c.args.bytes.now c.requires.none)
