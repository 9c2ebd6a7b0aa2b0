-- Parts of a thread's row.
use Rattle.std.specs.{List.splice, Prelude.{ℕ, ◌+◌, ◌%◌, ◌==◌, ◌&&◌, nat_lt, Bool, List, [], ◌∷◌, length}}
use Rattle.mg_model.specs.{Abbreviations.{frames_at, is_call_frame, state_number, word_bytes}, Bytes.number_at}
use Rattle.mg_model.specs.{Bytes.numbers_at, Spelling.{frame_at, state_numbered}, State.ThreadRow}

-- the words that it begins with
abbrev pub head_words : ThreadRow → List ℕ
head_words row = 1 ∷ row.birth ∷ row.creator ∷ row.pc ∷ state_number row.state ∷ length row.frames ∷ []

-- the thread that these bytes spell, with n frames
abbrev pub with_frames : List ℕ → ℕ → ThreadRow
with_frames bytes n = record {
  birth = number_at bytes 8;
  creator = number_at bytes 16;
  pc = number_at bytes 24;
  state = state_numbered (number_at bytes 32);
  regs = numbers_at bytes 64 8;
  frames = frames_at bytes 128 n;
}

-- whether all parts but the later frames keep their rules
abbrev pub begins : List ℕ → Bool
begins bytes =
    nat_lt (number_at bytes 16) (number_at bytes 8)
    && number_at bytes 24 % 8 == 0
    && is_call_frame (frame_at bytes 128)
    && (frame_at bytes 128).back == 0

-- bytes with this word written at this place
abbrev pub with_word : ℕ → ℕ → List ℕ → List ℕ
with_word at word bytes = splice bytes at (at + 8) (word_bytes word)
