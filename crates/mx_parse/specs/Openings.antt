-- The bytes of a text at which a bracket or an indent may open.
pub use Rattle.mx_print.specs.Sizes.{may_open, openings}
