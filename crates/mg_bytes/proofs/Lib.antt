mod Spliced
