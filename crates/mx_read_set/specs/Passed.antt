-- How what comes of an instruction goes on past the keys that it looks up and what it notes.
use Rattle.mx_edit.specs.declared.key.Key.{Key}
use Rattle.mx_edit.specs.declared.key.KeyResult.{KeyResult}
use Rattle.mx_code_law.specs.States.{Next, On, End, Look, Test, Ask, Note, Stuck}
use Rattle.mx_read_set.specs.Seen.{Seen, with_key, with_read}

-- where it comes to a state, an end or an ask, and what the run has read then
abbrev pub passed : (Key → KeyResult) → Next → Seen → Next × Seen
passed look (On s) seen = (On s, seen)
passed look (End o) seen = (End o, seen)
passed look (Look key to) seen = passed look (to (look key)) (with_key key seen)
passed look (Test key to) seen = passed look (to (look key)) seen
passed look (Ask m to) seen = (Ask m to, seen)
passed look (Note read next) seen = passed look next (with_read read seen)
passed look Stuck seen = (Stuck, seen)
