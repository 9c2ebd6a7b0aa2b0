mod Paid
mod Spans
